-- `listing::put_lines` meets its contract: D65 is prepared at a known spacing, and the lines that are left, put from here, are those of all.
use Rattle.std.proofs.Common.{◌≡◌, refl, ap, ◌∙◌, arith}
use Rattle.cie.specs.Spacing.{rows_at}
use Rattle.cie.specs.Lights.{light_d65, light_tables}
use Rattle.conditions.specs.declared.Conditions.{Conditions}
use Rattle.conditions.specs.Conditions.{conditions_of}
use Rattle.conditions.specs.Lent.{conditions_lent}
use Rattle.book.specs.Book.{is_book, numbers_of, readings_of}
use Rattle.book.proofs.Rules.{book_contents, length-numbers_of}
use Rattle.text.proofs.Puts.{same, left_more, left_none}
use Rattle.listing.proofs.Lines.{line_same, lines_more, lines_none, opened_d65, lent_d65, shade_d65}
use Rattle.listing.proofs.put_lines.Goals as goal
use Rattle.listing.proofs.put_lines.Goals.{After-lend-lent}

lent : (c : After-lend-lent) → conditions_lent c.lend-lent.result ≡ conditions_of (light_tables light_d65 c.args.spacing)
lent c = lent_d65 c.args.spacing c.lend-lent.result c.requires.0 c.prepare_light.ensures c.unwrap-conditions.ensures c.lend-lent.ensures

pub unwrap-conditions-requires : goal.unwrap-conditions-requires
unwrap-conditions-requires c = rw (opened_d65 c.args.spacing c.requires.0 c.prepare_light.ensures)

pub count-shades-requires : goal.count-shades-requires
count-shades-requires c = book_contents (rows_at c.args.spacing) c.args.book.now c.requires.1

pub put_shade-at-requires : goal.put_shade-at-requires
put_shade-at-requires c = (
  ap (λ (k : Conditions). is_book k.rows c.args.book.now) (lent (goal.at.put_shade-at-requires c).After-lend-lent) ∙ c.requires.1,
  omega (arith, c.count-shades.ensures.0),
  omega (arith, c.count-shades.ensures.1),
)

pub loop-i-preserved : goal.loop-i-preserved
loop-i-preserved c =
    let s = c.args.spacing in
    let b = c.args.book.now in
    let i = c.loop-i.i in
    let inv = c.loop-i.invariant in
    let shade = c.put_shade-at in
    let line = same (line_same refl (shade_d65 s b i (lent (goal.at.loop-i-preserved c).After-lend-lent))) shade.ensures.0 in
    record {
      room = omega (arith, shade.ensures.1);
      as_long = shade.auto.out ∙ inv.as_long;
      left = left_more
          (lines_more s (numbers_of b) (readings_of (rows_at s) b) i (omega (arith, c.count-shades.ensures.0, length-numbers_of b)))
          inv.left line;
    }

pub returns : goal.returns
returns c =
    let s = c.args.spacing in
    let b = c.args.book.now in
    let n = c.count-shades.ensures in (
      left_none (lines_none s (numbers_of b) (readings_of (rows_at s) b) c.loop-i.i (omega (arith, n.0, length-numbers_of b))) c.loop-i.invariant.left,
      omega (arith, n.1),
    )
