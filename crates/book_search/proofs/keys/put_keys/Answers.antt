-- The keys that are left, stored from here, are all of them.
use Rattle.std.proofs.Common.{◌≡◌, ◌+◌, ◌<◌, ℕ, List, length, get_or, drop, set, sym, ap, ◌∙◌, arith}
use lib.Seq.{sets}
use Rattle.signed.specs.Apart.{distance}
use Rattle.stores.proofs.Runs.{run_more, run_ended, sets_over}
use Rattle.book.specs.Book.{numbers_of, readings_of, spectrum_of}
use Rattle.book.proofs.Rules.{length-numbers_of}
use Rattle.nearest.specs.Order.{key_of}
use Rattle.book_search.specs.Shades.{lightness_by, keys_by}
use Rattle.book_search.proofs.Beside.{each_length, each_at}
use Rattle.book_search.proofs.keys.put_keys.Goals as goal

-- the key of a shade by its number and its readings
abbrev key_by : ℕ → List ℕ → ℕ → ℕ → List ℕ → ℕ
key_by yn y l k readings = key_of (distance l (lightness_by yn y readings)) k

pub loop-i-preserved : goal.loop-i-preserved
loop-i-preserved c =
    let a = c.args in
    let rows = length a.places.now in
    let book = a.book.now in
    let i = c.loop-i.i in
    let all = keys_by (lightness_by a.yn a.y.now) rows a.l book in
    let by = key_by a.yn a.y.now a.l in
    let key : ℕ → ℕ = λ n. by (get_or (numbers_of book) i 0) (spectrum_of n (readings_of n book) i) in
    let lent : length c.loop-i.places ≡ rows = omega arith in
    let among : i < length (numbers_of book) = omega (arith, c.requires.1, length-numbers_of book) in
    let stored = c.key_at.ensures.0 ∙ ap key lent ∙ sym (each_at by rows 0 (numbers_of book) (readings_of rows book) i among) in
    ap (λ (n : ℕ). sets (set c.loop-i.keys i n) (i + 1) (drop (i + 1) all)) stored
    ∙ run_more c.loop-i.keys all i (omega (arith, among, each_length by rows (numbers_of book) (readings_of rows book)))
    ∙ c.loop-i.invariant

pub returns : goal.returns
returns c =
    let a = c.args in
    let rows = length a.places.now in
    let book = a.book.now in
    let all = keys_by (lightness_by a.yn a.y.now) rows a.l book in
    let n = each_length (key_by a.yn a.y.now a.l) rows (numbers_of book) (readings_of rows book) in
    sym (run_ended c.loop-i.keys all c.loop-i.i (omega (arith, n, length-numbers_of book, c.requires.1)))
    ∙ c.loop-i.invariant
    ∙ sets_over a.keys.now all (omega (arith, n, length-numbers_of book, c.requires.1))
