-- Each turn is one of the rule, and what the search holds at its end is the rule's answer.
use Rattle.std.proofs.Common.{get_or, sym, ap, ◌∙◌, arith}
use Rattle.endian.specs.Bytes.{AllBelow}
use Rattle.nearest.specs.declared.Search.{Search}
use Rattle.nearest.proofs.Turns.{compared_count}
use Rattle.book_search.proofs.Comparisons.{keys_count, small_keys, first_some, first_among, search_begun, next_among, room_left, search_on, search_ended}
use Rattle.book_search.proofs.comparing.searched.Goals as goal

pub unwrap-first-requires : goal.unwrap-first-requires
unwrap-first-requires c =
    let bytes : AllBelow 256 c.args.book.now = λ i. omega (arith, c.type_inv.book i) in
    first_some c.requires.1 bytes c.first.result c.first.ensures

pub compare-e-requires : goal.compare-e-requires
compare-e-requires c =
    let bytes : AllBelow 256 c.args.book.now = λ i. omega (arith, c.type_inv.book i) in
    let r = c.requires.1 in
    (r.sized, c.requires.0, r.is_book_holds, first_among r bytes c.unwrap-first.ensures c.first.ensures)

pub begun-search-requires : goal.begun-search-requires
begun-search-requires c =
    let bytes : AllBelow 256 c.args.book.now = λ i. omega (arith, c.type_inv.book i) in
    let r = c.requires.1 in
    (small_keys r bytes, omega (arith, first_among r bytes c.unwrap-first.ensures c.first.ensures, keys_count r bytes))

pub loop-i-init : goal.loop-i-init
loop-i-init c =
    let bytes : AllBelow 256 c.args.book.now = λ i. omega (arith, c.type_inv.book i) in
    search_begun c.requires.1 bytes c.unwrap-first.ensures c.first.ensures c.compare-e.ensures c.begun-search.ensures.0 c.begun-search.ensures.1

pub compare-e-requires-in-Some : goal.compare-e-requires-in-Some
compare-e-requires-in-Some c =
    let bytes : AllBelow 256 c.args.book.now = λ i. omega (arith, c.type_inv.book i) in
    let r = c.requires.1 in
    (r.sized, omega arith, r.is_book_holds, next_among r bytes c.loop-i.invariant (sym c.turn.ensures ∙ c.in-Some.is))

pub compared-search-requires : goal.compared-search-requires
compared-search-requires c =
    let bytes : AllBelow 256 c.args.book.now = λ i. omega (arith, c.type_inv.book i) in
    let r = c.requires.1 in
    let on = sym c.turn.ensures ∙ c.in-Some.is in (
      small_keys r bytes,
      omega (arith, next_among r bytes c.loop-i.invariant on, keys_count r bytes),
      omega (arith, room_left r bytes c.loop-i.invariant on, c.ranges.budget.fits),
    )

pub loop-i-smaller : goal.loop-i-smaller
loop-i-smaller c =
    let bytes : AllBelow 256 c.args.book.now = λ i. omega (arith, c.type_inv.book i) in
    let s = c.loop-i.search in
    let count = ap (λ (t : Search). t.count) c.compared-search.ensures.0
    ∙ compared_count s (get_or c.args.keys.now c.in-Some.i 0) c.compare-e-in-Some.result c.compared-search.result.next in
    omega (arith, room_left c.requires.1 bytes c.loop-i.invariant (sym c.turn.ensures ∙ c.in-Some.is), count)

pub loop-i-preserved : goal.loop-i-preserved
loop-i-preserved c =
    let bytes : AllBelow 256 c.args.book.now = λ i. omega (arith, c.type_inv.book i) in
    search_on c.requires.1 bytes c.loop-i.invariant (sym c.turn.ensures ∙ c.in-Some.is) c.compare-e-in-Some.ensures
    c.compared-search.ensures.0 c.compared-search.ensures.1

pub returns-clause-result_value : goal.returns-clause-result_value
returns-clause-result_value c =
    let bytes : AllBelow 256 c.args.book.now = λ i. omega (arith, c.type_inv.book i) in
    search_ended c.requires.1 bytes c.loop-i.invariant (sym c.turn.ensures ∙ c.in_default.is) c.answer.ensures
