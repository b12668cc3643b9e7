-- Text that is put piece by piece: each piece begins at the place where the one before it ended, so the pieces are one text. Assumes nothing.
use mathlib.Core.Path.{◌≡◌, refl, sym, ap, ◌∙◌}
use mathlib.Core.List.{List, [], ◌++◌}
use Prim.Native.Nat.{ℕ, ◌+◌, ◌-◌, ◌≤◌}
use native.Mathlib.Omega.{arith}
use lib.ListN.{length, take, drop, length-append, length-drop}
use lib.Seq.{sets, take-length, length-take-le}
use Rattle.stores.proofs.Runs.{sets_append, sets_part, sets_front}
use Rattle.text.specs.Text.{Put}

-- putting two texts one after the other is putting both as one
pub then : {d e g : List ℕ} {at r q : ℕ} {xs ys : List ℕ} → Put d at xs e r → Put e r ys g q → Put d at (xs ++ ys) g q
then {d} {at = at} {r = r} {xs = xs} {ys = ys} p s =
    record {
      ends = omega (arith, p.ends, s.ends, length-append xs ys);
      holds = s.holds ∙ ap (λ (l : List ℕ). sets l r ys) p.holds ∙ ap (λ (i : ℕ). sets (sets d at xs) i ys) p.ends ∙ sym (sets_append d at xs ys);
    }

-- the text may be said in other words
pub same : {d e : List ℕ} {at r : ℕ} {xs ys : List ℕ} → xs ≡ ys → Put d at xs e r → Put d at ys e r
same q p = rw q at p

-- a text that is copied to the start of the lent part `&mut d[at..]`
pub copied : (d text : List ℕ) (at k : ℕ) {part : List ℕ} → at + length text ≤ length d → length d - at ≡ k
    → part ≡ take (length text) text ++ drop (length text) (take k (drop at d))
    → take at d ++ (part ++ drop k (drop at d)) ≡ sets d at text
copied d text at k h e p =
    let l : length text ≤ length (take k (drop at d)) = omega (arith, length-take-le k (drop at d) (omega (arith, length-drop at d)), length-drop at d) in
    rw (p, take-length text, ← sets_front (take k (drop at d)) text l) (sets_part d at k text (omega arith) e)

-- rest, put into e at a place, makes what whole makes in d from start on
pub record Left (d : List ℕ) (start : ℕ) (whole e : List ℕ) (at : ℕ) (rest : List ℕ) : Type 0 where
  pub ends : at + length rest ≡ start + length whole
  pub holds : sets e at rest ≡ sets d start whole

module _ {d : List ℕ} {start : ℕ} {whole : List ℕ} where
  pub left_all : Left d start whole d start whole
  left_all = record { ends = refl; holds = refl }

  pub left_more : {e g : List ℕ} {at r : ℕ} {rest xs more : List ℕ} →
      rest ≡ xs ++ more → Left d start whole e at rest → Put e at xs g r → Left d start whole g r more
  left_more {rest = rest} {more = more} q l p =
      let both = same (sym q) (then p (record { ends = refl; holds = refl })) in
      record { ends = both.ends ∙ l.ends; holds = both.holds ∙ l.holds }

  pub left_none : {e : List ℕ} {at : ℕ} {rest : List ℕ} → rest ≡ [] → Left d start whole e at rest → Put d start whole e at
  left_none {e} {at} q l = let m = rw q at l in record { ends = omega (arith, m.ends); holds = m.holds }
