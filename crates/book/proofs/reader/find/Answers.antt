-- `book::reader::find` meets its contract: the first shade of the number stands at its place, and where no shade has it, the place is their count.
-- Assumes nothing.
use Rattle.std.proofs.Common.{◌≡◌, ◌≢◌, get_or, rules, tests}
use Rattle.std.proofs.lemmas.Iterator.{first_from_Range}
use Rattle.book.specs.Book.{numbers_of}
use Rattle.book.proofs.Rules.{length-numbers_of}
use Rattle.book.proofs.Tests.{found_place}
use Rattle.book.proofs.reader.find.Goals as goal

pub returns : goal.returns
returns c =
    let k = c.args.number in
    let xs = numbers_of c.args.s.now in
    found_place k xs c.count.ensures.0 (length-numbers_of c.args.s.now) _
    (first_from_Range _ _ _ _ (λ i. get_or xs i 0 ≡ k) (λ i. get_or xs i 0 ≢ k) c.find.ensures.ran (λ x q e. search (rules, tests)) (λ x q e. search (rules, tests)))
