-- What the host's call answers and leaves, from the colour or the cause that it found: the buffer's check comes after theirs, and the five
-- numbers are stored one after the other. Assumes nothing.
use mathlib.Core.Path.{◌≡◌, refl, sym, ap, ◌∙◌}
use mathlib.Core.List.{List, [], ◌∷◌, ◌++◌}
use Prim.Native.Nat.{ℕ, ◌+◌, ◌^◌, ◌≤◌, ◌<◌}
use native.Mathlib.Omega.{arith}
use borrow.Author.Tests.{lt-ltb, le-ltb}
use lib.Dec.{ltb}
use lib.IntN.{ℤ, pos}
use lib.ListN.{length, drop}
use lib.Seq.{sets}
use Rattle.causes.specs.declared.Cause.{Cause}
use Rattle.causes.specs.declared.Cause.TheVariants.{ShortBuffer}
use Rattle.std.specs.Prelude.{Ok, Err}
use Rattle.causes.specs.Causes.{cause_number, accepted, refused}
use Rattle.causes.specs.Checks.{check, first_of}
use Rattle.causes.proofs.Checks.{fires, passes, ends, refuses, clear_at, first_because, first_clear, numbered_refused, numbered_accepted}
use Rattle.cie.specs.Lights.{light_tables}
use Rattle.cie.proofs.TableRows.{told_known}
use Rattle.cie.proofs.Sizes.{colour_sized}
use Rattle.colour.specs.declared.Coordinates.{Coordinates}
use Rattle.colour.specs.Coordinates.{coordinates_in}
use Rattle.conditions.proofs.Dots.{at_most_twice}
use Rattle.conditions.proofs.Sound.{sound_light}
use Rattle.endian.specs.Bytes.{little_endian, le32, twos}
use Rattle.endian.proofs.Parts.{length-little_endian}
use Rattle.stores.proofs.Runs.{sets_then, sets_front}
use Rattle.host.specs.Host.{host_spacing, host_readings, answer_length, coordinate_bytes, colour_checks, host_checks, host_colour, coloured_of}
use Rattle.host.specs.Host.{answered, buffer_after}

-- stores
pub pair_put : (d : List ℕ) (at : ℕ) (p q : ℤ) {e g : List ℕ} → e ≡ sets d at (le32 (twos p)) → g ≡ sets e (at + 4) (le32 (twos q))
    → g ≡ sets d at (le32 (twos p) ++ le32 (twos q))
pair_put d at p q h k =
    k ∙ ap (λ (l : List ℕ). sets l (at + 4) (le32 (twos q))) h ∙ sets_then d at 4 (le32 (twos p)) (le32 (twos q)) (length-little_endian 4 (twos p))

length-answer : (c : Coordinates) → length (coordinate_bytes c) ≡ answer_length
unfolding coordinate_bytes little_endian
length-answer c = refl

stores : (d : List ℕ) (c : Coordinates)
    → sets (sets (sets d 0 (le32 (twos (pos c.l)))) 4 (le32 (twos c.a) ++ le32 (twos c.b))) 12 (le32 (twos c.u) ++ le32 (twos c.v))
    ≡ sets d 0 (coordinate_bytes c)
unfolding coordinate_bytes little_endian
stores d c = refl

pub answer_put : (d : List ℕ) (c : Coordinates) {l a b u v : ℤ} {e f g : List ℕ} → l ≡ pos c.l → a ≡ c.a → b ≡ c.b → u ≡ c.u → v ≡ c.v
    → e ≡ sets d 0 (le32 (twos l)) → f ≡ sets e 4 (le32 (twos a) ++ le32 (twos b)) → g ≡ sets f 12 (le32 (twos u) ++ le32 (twos v))
    → g ≡ sets d 0 (coordinate_bytes c)
answer_put d c el ea eb eu ev p₁ p₂ p₃ = p₃ ∙ rw (p₂, p₁, el, ea, eb, eu, ev) (stores d c)

-- what was found says what its checks found
module _ (light : ℕ) (bytes : List ℕ) where
  abbrev found : Coordinates
  found = coordinates_in (host_colour light bytes)

  found_because : (n : ℕ) → refused n ≡ coloured_of light bytes →
      (c : Cause) × (first_of (colour_checks light bytes) ≡ Err c) × (cause_number c ≡ n)
  unfolding coloured_of
  found_because n e = numbered_refused (first_of (colour_checks light bytes)) found n (sym e)

  found_colour : (c : Coordinates) → accepted c ≡ coloured_of light bytes → (first_of (colour_checks light bytes) ≡ Ok tt) × (c ≡ found)
  unfolding coloured_of
  found_colour c e = numbered_accepted (first_of (colour_checks light bytes)) found c (sym e)

  pub found_small : (c : Coordinates) → accepted c ≡ coloured_of light bytes → c.l < 2 ^ 31
  unfolding host_colour
  found_small c e =
      let f = found_colour c e in
      let s = host_spacing bytes in
      let white = (sound_light light s (told_known (length bytes))).white in
      let sized = colour_sized white (at_most_twice (light_tables light s) (host_readings bytes) (clear_at _ f.0 2)) in
      omega (arith, sized.l, ap (λ (k : Coordinates). k.l) f.1)

  -- the returns
  module _ (b : List ℕ) where
    pub no_colour : (n : ℕ) → refused n ≡ coloured_of light bytes → (n ≡ answered light bytes (length b)) × (b ≡ buffer_after light bytes b)
    unfolding answered buffer_after
    no_colour n e =
        let w = found_because n e in
        let f = first_because (colour_checks light bytes) _ w.0 w.1 in
        (sym (refuses _ _ _ w.0 f ∙ w.2), sym (refuses _ _ _ w.0 f))

    module _ (c : Coordinates) (e : accepted c ≡ coloured_of light bytes) where
      rest : first_of (host_checks light bytes (length b)) ≡ first_of (check (ltb (length b) answer_length) ShortBuffer ∷ [])
      rest = first_clear (colour_checks light bytes) _ (found_colour c e).0

      pub no_room : length b < answer_length → (cause_number ShortBuffer ≡ answered light bytes (length b)) × (b ≡ buffer_after light bytes b)
      unfolding answered buffer_after
      no_room h = rw rest (sym (fires _ _ _ _ _ (lt-ltb _ _ h)), sym (fires _ _ _ _ _ (lt-ltb _ _ h)))

      pub written : answer_length ≤ length b → {g : List ℕ} → g ≡ sets b 0 (coordinate_bytes c) →
          (◌≡◌ {A = ℕ} 0 (answered light bytes (length b))) × (g ≡ buffer_after light bytes b)
      unfolding answered buffer_after
      written h {g} p =
          let whole : g ≡ coordinate_bytes found ++ drop answer_length b =
          p ∙ sets_front b (coordinate_bytes c) (omega (arith, length-answer c)) ∙ ap (λ (k : ℕ). coordinate_bytes c ++ drop k b) (length-answer c)
          ∙ ap (λ (k : Coordinates). coordinate_bytes k ++ drop answer_length b) (found_colour c e).1 in
          rw rest (sym (passes _ _ _ _ _ (le-ltb _ _ h) ∙ ends _ _), whole ∙ sym (passes _ _ _ _ _ (le-ltb _ _ h) ∙ ends _ _))
