-- IN ONLY ONE WAY: two notices that have one sentence are one (`sentence-only`). The text is parted at the first byte that is no numeral: behind "refused "
-- stands the number, behind " at " the offset; the number gives the reason, and behind that each place follows a space.
use Prim.Native.Nat.{ℕ, suc}
use mathlib.Core.Path.{◌≡◌, refl, sym, ap, ap₂, ◌∙◌}
use mathlib.Core.Bool.{true}
use mathlib.Core.List.{List, [], ◌∷◌, ◌++◌, append_assoc, append_cancel_left, tail-eq_of_cons-eq, cons-eq-cons, nil≢cons, cons≢nil, flat_map}
use Rattle.lines.specs.Ascii.{ascii}
use Rattle.lines.specs.Text.{decimal, spaced}
use Rattle.lines.proofs.Decimals.{stops, decimal-front}
use Rattle.notices.specs.Reasons.{reason_of}
use Rattle.notices.specs.Sentence.{Notice, notice, refusal_text, sentence_of}
use Rattle.notices.specs.Promise.{AllBits64, Bits64}

-- PLACES
places-stop : (L : List ℕ) → stops (spaced decimal L) ≡ true
unfolding flat_map
places-stop [] = refl
places-stop (p ∷ L) = refl

places-only : (L M : List ℕ) → AllBits64 L → AllBits64 M → spaced decimal L ≡ spaced decimal M → L ≡ M
unfolding flat_map
places-only [] [] f g e = refl
places-only [] (q ∷ M) f g e = absurd (nil≢cons e)
places-only (p ∷ L) [] f g e = absurd (cons≢nil e)
places-only (p ∷ L) (q ∷ M) f g e =
    let r = decimal-front p q (f 0) (g 0) (places-stop L) (places-stop M) (tail-eq_of_cons-eq e) in
    cons-eq-cons.1 (r.0, places-only L M (λ i. f (suc i)) (λ i. g (suc i)) r.1)

-- THE PARTS of a sentence, from the left
abbrev behind_offset : Notice → List ℕ
behind_offset a = ascii " " ++ (reason_of a.number ++ spaced decimal a.places)

abbrev behind_number : Notice → List ℕ
behind_number a = ascii " at " ++ (decimal a.offset ++ behind_offset a)

parted : (a : Notice) → sentence_of a ≡ ascii "refused " ++ (decimal a.number ++ behind_number a)
unfolding sentence_of refusal_text
parted a = ap (λ t. ascii "refused " ++ t) (append_assoc (decimal a.number) (ascii " at " ++ decimal a.offset) (behind_offset a))

module _ (a b : Notice) (f : Bits64 a) (g : Bits64 b) where
  same_number : sentence_of a ≡ sentence_of b → (a.number ≡ b.number) × (behind_number a ≡ behind_number b)
  same_number e =
      decimal-front a.number b.number f.number g.number refl refl
      (append_cancel_left (ascii "refused ") _ _ (sym (parted a) ∙ e ∙ parted b))

  same-offset : behind_number a ≡ behind_number b → (a.offset ≡ b.offset) × (behind_offset a ≡ behind_offset b)
  same-offset e = decimal-front a.offset b.offset f.offset g.offset refl refl (append_cancel_left (ascii " at ") _ _ e)

  same-places : a.number ≡ b.number → behind_offset a ≡ behind_offset b → a.places ≡ b.places
  same-places n e =
      places-only a.places b.places f.places g.places
      (append_cancel_left (reason_of a.number) _ _ (tail-eq_of_cons-eq e ∙ ap (λ k. reason_of k ++ spaced decimal b.places) (sym n)))

  pub sentence-only : sentence_of a ≡ sentence_of b → a ≡ b
  sentence-only e =
      let n = same_number e in
      let o = same-offset n.1 in
      let p = same-places n.0 o.1 in
      ap (λ k. notice k a.offset a.places) n.0 ∙ ap₂ (λ x L. notice b.number x L) o.0 p
