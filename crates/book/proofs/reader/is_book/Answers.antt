-- `book::reader::is_book` meets its contract: its tests are the rules, in their order. Assumes nothing.
use Rattle.std.proofs.Common.{◌∙◌, ap, sym, not}
use Rattle.book.specs.Book.{magic}
use Rattle.book.proofs.Tests.{starts_same}
use Rattle.book.proofs.Rules.{too_short, begins_otherwise, last_rule}
use Rattle.book.proofs.reader.is_book.Goals as goal
use Rattle.book.proofs.reader.is_book.Goals.{then-s-lt-HEAD-via-then-s-lt-HEAD, then-s-lt-HEAD-via-else-s-lt-HEAD+then-not-starts_with}

pub returns-then-s-lt-HEAD : goal.returns-then-s-lt-HEAD
returns-then-s-lt-HEAD c =
    elim c.then-s-lt-HEAD.branch [
      | then-s-lt-HEAD-via-then-s-lt-HEAD w ↦ too_short _ _ w.if-s-lt-HEAD.true
      | then-s-lt-HEAD-via-else-s-lt-HEAD+then-not-starts_with w ↦
          begins_otherwise _ _ (sym (w.if-not-starts_with.ensures.value ∙ starts_same magic c.args.s.now))
    ]

pub returns-then-entries_right : goal.returns-then-entries_right
returns-then-entries_right c =
    let begins = sym (c.if-not-starts_with.ensures.value ∙ starts_same magic c.args.s.now) in
    let entries = sym c.if-entries_right.ensures in
    ap not c.any_over_bright.ensures
    ∙ last_rule _ _ c.read16-n.ensures c.if-s-lt-HEAD.false begins c.if-n-gt-MOST_SHADES.false (c.if-s-total.false ∙ c.total.ensures) entries
