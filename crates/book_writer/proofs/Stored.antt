-- The writer's stores: each part of a book is stored where the one before it ends, so the runs of stores join to the book's. Assumes nothing.
use mathlib.Core.Path.{◌≡◌, refl, sym, ap, ◌∙◌}
use Prim.Native.Nat.{ℕ, ◌+◌, ◌-◌, ◌*◌, ◌≤◌, ◌<◌}
use native.Mathlib.Omega.{arith}
use native.Mathlib.Numerals.{add-one}
use mathlib.Core.List.{List, [], ◌∷◌, ◌++◌, append_assoc}
use lib.ListN.{length, get_or, take, drop, length-append, length-drop, drop_of_length-le}
use lib.Seq.{sets, drop-cons, length-take-le}
use Rattle.endian.specs.Bytes.{le16, le32, little_endian, bytes_of}
use Rattle.stores.proofs.Runs.{sets_then, sets_part}
use Rattle.endian.proofs.Parts.{length-little_endian}
use Rattle.endian.proofs.Words.{length-bytes_of, bytes_of-split}
use Rattle.book.specs.Book.{magic, count_place, head_length, entry_length, body_length, bodies_at, entry_of, contents_of, book_of}

pub length-entry_of : (rows k o : ℕ) → length (entry_of rows k o) ≡ entry_length
unfolding entry_of little_endian
length-entry_of rows k o = refl

pub length-contents_of : (rows o : ℕ) (ns : List ℕ) → length (contents_of rows o ns) ≡ entry_length * length ns
unfolding contents_of
length-contents_of rows o [] = refl
length-contents_of rows o (n ∷ ns) =
    let c : List ℕ = contents_of rows (o + body_length rows) ns in
    omega (arith, length-append (entry_of rows n o) c, length-entry_of rows n o, length-contents_of rows (o + body_length rows) ns)

pub length-book_of : (rows : ℕ) (ns rs : List ℕ) → length (book_of rows ns rs) ≡ bodies_at (length ns) + 2 * length rs
unfolding book_of little_endian
length-book_of rows ns rs =
    let c : List ℕ = contents_of rows (bodies_at (length ns)) ns in
    omega (arith, length-append c (bytes_of rs), length-contents_of rows (bodies_at (length ns)) ns, length-bytes_of rs)

-- the three stores of an entry; here and below b is the body length that the code has
pub entry_stores : (rows : ℕ) (d : List ℕ) (at k o : ℕ) {b : ℕ} → b ≡ body_length rows
    → sets (sets (sets d at (le16 k)) (at + 2) (le16 b)) (at + 4) (le32 o) ≡ sets d at (entry_of rows k o)
unfolding entry_of
entry_stores rows d at k o {b} q =
    let four : length (le16 k ++ le16 b) ≡ 4 = omega (arith, length-append (le16 k) (le16 b), length-little_endian 2 k, length-little_endian 2 b) in
    ap (λ (l : List ℕ). sets l (at + 4) (le32 o)) (sets_then d at 2 (le16 k) (le16 b) (length-little_endian 2 k))
    ∙ sets_then d at 4 (le16 k ++ le16 b) (le32 o) four
    ∙ ap (λ (l : List ℕ). sets d at l) (append_assoc (le16 k) (le16 b) (le32 o))
    ∙ ap (λ (x : ℕ). sets d at (le16 k ++ (le16 x ++ le32 o))) q

-- one turn of the loop that stores the entries, and its end; d' is what the entry's stores left, next and due the following entry's place and offset
pub contents_store : (rows : ℕ) (d : List ℕ) (at i offset : ℕ) (l : List ℕ) → i < length l
    → {d' : List ℕ} → d' ≡ sets d at (entry_of rows (get_or l i 0) offset) → {next due : ℕ} → next ≡ at + entry_length → due ≡ offset + body_length rows
    → sets d' next (contents_of rows due (drop (i + 1) l)) ≡ sets d at (contents_of rows offset (drop i l))
unfolding contents_of
contents_store rows d at i offset l h s p q =
    let e : List ℕ = entry_of rows (get_or l i 0) offset in
    let rest : List ℕ = contents_of rows (offset + body_length rows) (drop (i + 1) l) in
    rw (p, q)
    (ap (λ (r : List ℕ). sets r (at + entry_length) rest) s
    ∙ sets_then d at entry_length e rest (length-entry_of rows (get_or l i 0) offset)
    ∙ rw (drop-cons l i 0 h, add-one))

pub contents_stored : (rows : ℕ) (d : List ℕ) (at i offset : ℕ) (l : List ℕ) → length l ≤ i → sets d at (contents_of rows offset (drop i l)) ≡ d
unfolding contents_of
contents_stored rows d at i offset l h = rw (drop_of_length-le l h)

-- one turn of the loop that lends the rest of the buffer to the body's writer: m is the code's number of readings, k the rest's length, ys what
-- the writer left, next and more the following body's place and its first reading
pub bodies_store : (rows : ℕ) (d : List ℕ) (at from m k : ℕ) (l ys : List ℕ)
    → at ≤ length d → from + rows ≤ length l → m ≡ rows → length d - at ≡ k → ys ≡ sets (take k (drop at d)) 0 (bytes_of (take m (drop from l)))
    → {next more : ℕ} → next ≡ at + body_length rows → more ≡ from + rows
    → sets (take at d ++ (ys ++ drop k (drop at d))) next (bytes_of (drop more l)) ≡ sets d at (bytes_of (drop from l))
bodies_store rows d at from m k l ys h f e g s p q =
    let b = body_length rows in
    let body : List ℕ = bytes_of (take m (drop from l)) in
    let rest : List ℕ = bytes_of (drop (from + rows) l) in
    let n : length (take m (drop from l)) ≡ rows = length-take-le m (drop from l) (omega (arith, length-drop from l)) ∙ e in
    rw (p, q)
    (ap (λ (r : List ℕ). sets (take at d ++ (r ++ drop k (drop at d))) (at + b) rest) s
    ∙ ap (λ (r : List ℕ). sets r (at + b) rest) (sets_part d at k body h g)
    ∙ sets_then d at b body rest (omega (arith, length-bytes_of (take m (drop from l))))
    ∙ ap (λ (r : ℕ). sets d at (bytes_of (take r (drop from l)) ++ rest)) e
    ∙ ap (λ (r : List ℕ). sets d at r) (sym (bytes_of-split rows from l)))

-- the stores of a book
pub book_stores : (rows : ℕ) (b ns rs : List ℕ)
    → sets (sets (sets (sets b 0 magic) count_place (le16 (length ns))) head_length (contents_of rows (bodies_at (length ns)) ns))
    (bodies_at (length ns)) (bytes_of rs)
    ≡ sets b 0 (book_of rows ns rs)
unfolding book_of
book_stores rows b ns rs =
    let c : List ℕ = contents_of rows (bodies_at (length ns)) ns in
    let m : List ℕ = sets b 0 magic in
    sets_then (sets m count_place (le16 (length ns))) head_length (entry_length * length ns) c (bytes_of rs) (length-contents_of rows (bodies_at (length ns)) ns)
    ∙ sets_then m count_place 2 (le16 (length ns)) (c ++ bytes_of rs) (length-little_endian 2 (length ns))
