-- `strike::parts::take_out` meets its contract: the parts that are left close up to the book of the remaining shades. Assumes nothing.
use Rattle.std.proofs.Common.{ℕ, List, ◌+◌, ◌*◌, ◌≤◌, ◌<◌, ◌≡◌, ◌++◌, ◌∙◌, true, length, take, drop, replicate, sym, ap, arith, rules as search_rules}
use Rattle.cie.specs.Spacing.{most_rows}
use Rattle.endian.specs.Bytes.{AllBelow}
use Rattle.book.specs.Book.{body_length, most_shades, bodies_at, total, count_of, is_book}
use Rattle.book.proofs.Sizes.{total_small, body_within}
use Rattle.book.proofs.Rules.{rules}
use Rattle.strike.proofs.StruckOut.{struck_out}
use Rattle.strike.proofs.parts.take_out.Goals as goal

-- the shades are few, and the body that goes is within the book, which is not large; b is the body length that the code has
record Sizes (n i b room : ℕ) : Type 0 where
  few : n ≤ most_shades
  within : bodies_at n + b * i + b ≤ room
  short : room ≤ total most_rows most_shades

sizes : (rows : ℕ) (s : List ℕ) (n i : ℕ) {b : ℕ} → (rows ≤ most_rows) × (is_book rows s ≡ true) × (n ≡ count_of s) × (i < n) → b ≡ body_length rows
    → Sizes n i b (length s)
sizes rows s n i q e =
    let r = rules rows s q.1 in
    let whole : length s ≡ total rows n = r.whole ∙ ap (total rows) (sym q.2) in
    record {
      few = omega (arith, r.few);
      within = omega (arith, body_within rows i n q.3 e);
      short = omega (arith, total_small rows (count_of s) q.0 r.few, r.whole);
    }

pub overflow_mul-n : goal.overflow_mul-n
overflow_mul-n c = let z = sizes c.args.rows c.args.buffer.now c.args.n c.args.i c.requires c.body_length-body.ensures in omega arith

pub overflow_add-n : goal.overflow_add-n
overflow_add-n c = let z = sizes c.args.rows c.args.buffer.now c.args.n c.args.i c.requires c.body_length-body.ensures in omega arith

pub overflow_mul-body : goal.overflow_mul-body
overflow_mul-body c = let z = sizes c.args.rows c.args.buffer.now c.args.n c.args.i c.requires c.body_length-body.ensures in omega arith

pub overflow_add-n-2 : goal.overflow_add-n-2
overflow_add-n-2 c = let z = sizes c.args.rows c.args.buffer.now c.args.n c.args.i c.requires c.body_length-body.ensures in omega arith

pub close_up-requires : goal.close_up-requires
close_up-requires c = (sizes c.args.rows c.args.buffer.now c.args.n c.args.i c.requires c.body_length-body.ensures).within

pub overflow_mul-i : goal.overflow_mul-i
overflow_mul-i c = let z = sizes c.args.rows c.args.buffer.now c.args.n c.args.i c.requires c.body_length-body.ensures in omega arith

pub overflow_add-i : goal.overflow_add-i
overflow_add-i c = let z = sizes c.args.rows c.args.buffer.now c.args.n c.args.i c.requires c.body_length-body.ensures in omega arith

pub close_up-requires-2 : goal.close_up-requires-2
close_up-requires-2 c = let z = sizes c.args.rows c.args.buffer.now c.args.n c.args.i c.requires c.body_length-body.ensures in omega arith

pub overflow_cast-n : goal.overflow_cast-n
overflow_cast-n c = let z = sizes c.args.rows c.args.buffer.now c.args.n c.args.i c.requires c.body_length-body.ensures in omega arith

pub put_entries-requires : goal.put_entries-requires
put_entries-requires c =
    let z = sizes c.args.rows c.args.buffer.now c.args.n c.args.i c.requires c.body_length-body.ensures in
    (c.requires.0, omega arith, omega arith)

pub returns : goal.returns
returns c =
    let a = c.args in
    let rows = a.rows in
    let d = a.buffer.now in
    let bytes : AllBelow 256 d = search search_rules in
    let fits : body_length rows < 65536 = omega (arith, c.requires.0) in
    let out =
    ap (λ (b : ℕ). take (bodies_at a.n + b * a.i) d ++ drop (bodies_at a.n + b * a.i + b) d ++ replicate b 0) c.body_length-body.ensures in
    struck_out rows fits d bytes c.requires.1 a.n a.i c.requires.2 c.requires.3
    (c.close_up.ensures ∙ out) c.close_up-2.ensures c.write16.ensures c.put_entries.ensures
