-- WHAT IS ASKED OF THE REASONS holds (`reasons-asked`): by one test over the list, which antt computes (`all_tested`).
use Prim.Native.Nat.{ℕ, ◌-◌, ◌<◌}
use native.Mathlib.Decide.{dec_lt}
use native.Mathlib.Omega.{arith}
use mathlib.Core.Path.{◌≡◌, refl, sym, ◌∙◌}
use mathlib.Core.Bool.{Bool, true, not, ◌&&◌, true≢false}
use mathlib.Core.List.{List, []}
use lib.Dec.{leb, ltb}
use lib.ListN.{length, get_or}
use borrow.Author.Tests.{ltb-true, leb-true}
use Rattle.arrays.specs.Below.{all_below}
use Rattle.arrays.proofs.Below.{all-each}
use Rattle.number.proofs.Tests.{both}
use Rattle.lines.specs.Words.{same}
use Rattle.lines.proofs.Words.{same_refl}
use Rattle.notices.specs.Reasons.{reasons, reason_of, HasReason, digit_free, single_spaced, ReasonsAsked}

-- a text is not empty, has no digit, single spaces and at most 38 bytes
abbrev well_worded : List ℕ → Bool
well_worded s = ltb 0 (length s) && (digit_free s && (single_spaced 32 s && leb (length s) 38))

-- and differs from those before it
abbrev tested : List (List ℕ) → ℕ → Bool
tested L j = well_worded (get_or L j []) && all_below j (λ i. not (same (get_or L i []) (get_or L j [])))

all_tested : all_below 22 (tested reasons) ≡ true
unfolding reasons all_below digit_free single_spaced same
all_tested = refl

-- the test of a reason, by its number
module _ {k : ℕ} (h : HasReason k) where
  at-number : tested reasons (k - 1) ≡ true
  at-number = all-each (tested reasons) 22 all_tested (k - 1) (omega (arith, h))

  abbrev reason : List ℕ
  reason = get_or reasons (k - 1) []

  is_some : (ltb 0 (length reason) ≡ true) × (digit_free reason && (single_spaced 32 reason && leb (length reason) 38) ≡ true)
  is_some = both (ltb 0 (length reason)) _ (both (well_worded reason) _ at-number).0

  is_plain : (digit_free reason ≡ true) × (single_spaced 32 reason && leb (length reason) 38 ≡ true)
  is_plain = both (digit_free reason) _ is_some.1

  is-spaced : (single_spaced 32 reason ≡ true) × (leb (length reason) 38 ≡ true)
  is-spaced = both (single_spaced 32 reason) _ is_plain.1

  differs : (i : ℕ) → i < k - 1 → not (same (get_or reasons i []) reason) ≡ true
  differs = all-each _ (k - 1) (both (well_worded reason) _ at-number).1

-- two reasons that are the same cannot have numbers one below the other
not-below : (j k : ℕ) → HasReason j → HasReason k → get_or reasons (j - 1) [] ≡ get_or reasons (k - 1) [] → j - 1 < k - 1 → ⊥
not-below j k g h e l =
    let s : same (get_or reasons (j - 1) []) (get_or reasons (k - 1) []) ≡ true = rw e (same_refl (get_or reasons (k - 1) [])) in
    true≢false (sym (differs h (j - 1) l) ∙ rw s)

pub reasons-asked : ReasonsAsked
unfolding reason_of
reasons-asked =
    record {
      some = λ k h. ltb-true 0 _ (is_some h).0;
      plain = λ k h. (is_plain h).0;
      spacing = λ k h. (is-spaced h).0;
      short = λ k h. leb-true _ 38 (is-spaced h).1;
      different = λ j k g h e. go j k g h e (dec_lt (j - 1) (k - 1)) (dec_lt (k - 1) (j - 1));
    }
  where
    go : (j k : ℕ) → HasReason j → HasReason k → get_or reasons (j - 1) [] ≡ get_or reasons (k - 1) [] → Dec (j - 1 < k - 1) → Dec (k - 1 < j - 1) → j ≡ k
    go j k g h e (yes l) q = absurd (not-below j k g h e l)
    go j k g h e (no n) (yes l) = absurd (not-below k j h g (sym e) l)
    go j k g h e (no n) (no m) = omega (arith, g, h)
