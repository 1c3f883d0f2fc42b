-- The list calls (document 01, "Shelf calls" and its tables of refusals): the tests of a carry and of a count of reversals (`carry_tests`,
-- `reversals_tests`), what a carry writes (`items_after_carry`), and what a count returns (`reversals_call`).
use Rattle.std.specs.Prelude.{Bool, false, not, ◌&&◌, ◌||◌, List, [], ◌∷◌, ℕ, ◌*◌, ltb, ℤ, pos, length, Result}
use Rattle.std.proofs.lemmas.List.Edits.{sets}
use Rattle.verdict.specs.declared.Reason.TheVariants.{WrongList, ExponentOutOfRange, OutputTooShort}
use Rattle.verdict.specs.declared.Refusal.{Refusal}
use Rattle.verdict.specs.Verdict.{Verdict, when, first_of, after}
use Rattle.verdict.specs.Report.{Report, report_of, answer_report}
use Rattle.number.specs.Number.{in_range}
use Rattle.number.specs.Signed.{plain, signed_arithmetic}
use Rattle.number.specs.declared.Number.{Number}
use Rattle.number.specs.declared.signed.Signed.{Signed}
use Rattle.words.specs.Word.{Factors, Word, word, for_up}
use Rattle.words.specs.Walk.{carry}
use Rattle.items.specs.Items.{is_zero_item, list_of, items_of, list_numbers, proper, vector_of}
use Rattle.reversals.specs.Reversals.{reversals}

-- ---- carrying
-- the first n items of a vector as a list
abbrev pub first_items : ℕ → (ℕ → Signed) → List Signed
first_items n v = for_up 1 n (λ i. v i ∷ [])

-- the word of n rows with the factors b, as signed numbers
abbrev pub signed_word : ℕ → Factors Number → Word Signed
signed_word n b = word n (λ i j. plain (b i j))

unfoldable pub carried_vector : ℕ → Factors Number → (ℕ → Signed) → ℕ → Signed
carried_vector n b v = carry signed_arithmetic (signed_word n b) v

abbrev pub carried_list : ℕ → Factors Number → List Signed → List Signed
carried_list n b L = first_items n (carried_vector n b (vector_of L))

-- an item is not zero, and its exponent lies outside the stored range
abbrev pub item_outside : Signed → Bool
item_outside a = not (is_zero_item a) && not (in_range a.size)

unfoldable pub any_outside : List Signed → Bool
any_outside [] = false
any_outside (a ∷ L) = item_outside a || any_outside L

-- ---- the calls
-- CARRY: not a list of n items; an item of the result outside the stored range; too little room
abbrev pub carry_tests : ℕ → Factors Number → (items out : List ℤ) → List Verdict
carry_tests n b items out =
    when (not (proper n n (list_of items))) WrongList
    ∷ when (any_outside (carried_list n b (items_of items))) ExponentOutOfRange
    ∷ when (ltb (length out) (3 * n)) OutputTooShort
    ∷ []

-- what the lent output holds after a carry: the carried items in its first 3 n numbers, and nothing else changed; a refusal changes nothing
unfoldable pub items_after_carry : ℕ → Factors Number → (items out : List ℤ) → List ℤ
items_after_carry n b items out = after (first_of (carry_tests n b items out)) out (sets out 0 (list_numbers (carried_list n b (items_of items))))

-- REVERSALS: not a list of 1 to 8 items
abbrev pub reversals_tests : List ℤ → List Verdict
reversals_tests items = when (not (proper 1 8 (list_of items))) WrongList ∷ []

-- what a count of reversals returns
unfoldable pub reversals_call : List ℤ → Report
reversals_call items = report_of (first_of (reversals_tests items)) (pos (reversals (items_of items)) ∷ [])

-- what its answers report
abbrev pub reversals_report : Result ℕ Refusal → Report
reversals_report r = answer_report (λ k. pos k ∷ []) r
