-- The keys that are left, stored from here, make what all of them make stored from the first place on.
use Rattle.std.proofs.Common.{length, ◌-◌, ◌≡◌, drop}
use lib.Seq.{sets}
use Rattle.book_search.specs.Shades.{keys_by, lightness_by}
use Rattle.book_search.proofs.keys.put_keys.Given as goal

abbrev pub invariant-loop-i : goal.invariant-loop-i
invariant-loop-i l =
    let all = keys_by (lightness_by l.yn l.y) (length l.initial.places) l.l l.book in
    sets l.keys l.i (drop l.i all) ≡ sets l.initial.keys 0 all

abbrev pub decreases-loop-i : goal.decreases-loop-i
decreases-loop-i l = length l.initial.keys - l.i
