-- The keys that are put are those of the book's shades.
use Rattle.std.proofs.Common.{ℕ, List, ap, ◌∙◌, arith}
use Rattle.conditions.specs.Lent.{conditions_lent}
use Rattle.book_search.specs.Shades.{lightness_by, keys_by}
use Rattle.book_search.proofs.Beside.{keys_under}
use Rattle.book_search.proofs.nearest_by.Goals as goal

pub searched-requires : goal.searched-requires
searched-requires c =
    let a = c.args in
    let put : ℕ → List ℕ = λ rows. keys_by (lightness_by a.lent.white.sums.y a.lent.weights.y.now) rows a.swatch.l a.book.now in (
      omega arith,
      record {
        sound = a.lent.sound;
        sized = c.requires.0;
        is_book_holds = c.requires.1;
        some = c.requires.2;
        keyed = c.put_keys.ensures ∙ ap put c.requires.4 ∙ keys_under (conditions_lent a.lent) a.swatch a.book.now;
      },
    )
