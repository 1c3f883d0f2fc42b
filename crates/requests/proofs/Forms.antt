-- The first entry of a table that has a word gives the form that the table gives it, where the words of the table differ (`first-form`); and a table behind
-- others gives what they gave only where it has not the word (`form-or`).
use Prim.Native.Nat.{ℕ}
use mathlib.Core.Path.{◌≡◌, refl, sym}
use mathlib.Core.Bool.{Bool, true, false, cond, not, and-eq-true_iff}
use mathlib.Core.List.{List, [], ◌∷◌}
use denote.Ref.{Bor}
use borrow.Author.Tests.{not-true}
use Rattle.std.specs.Prelude.{Option, Some, None, option_map, find}
use Rattle.std.specs.Option.{option_or}
use Rattle.lines.specs.Words.{same}
use Rattle.lines.proofs.Words.{same-eq}
use Rattle.requests.specs.declared.commands.Command.{Command}
use Rattle.requests.specs.declared.commands.Form.{Form}
use Rattle.requests.specs.declared.commands.Letter.{Letter}
use Rattle.requests.specs.declared.commands.Tail.{Tail}
use Rattle.requests.specs.Commands.{Entry, entry_form, form_from, lacks, differ, entries_of}

lacks-form : (w : List ℕ) (es : List Entry) (before : Option Form) → lacks w es ≡ true → form_from w es before ≡ before
unfolding lacks entry_form
lacks-form w [] before h = refl
lacks-form w (e ∷ es) before h =
    let p = (and-eq-true_iff (not (same w e.word)) (lacks w es)).0 h in
    rw (not-true (same w e.word) p.0) (lacks-form w es before p.1)

or-some : (f : Form) (o before : Option Form) → option_or o (Some f) ≡ option_or (option_or o (Some f)) before
or-some f (Some g) before = refl
or-some f None before = refl

or-step : (t : Bool) (w : List ℕ) (es : List Entry) (f : Form) (before : Option Form)
    → ((o : Option Form) → form_from w es o ≡ option_or (form_from w es None) o)
    → form_from w es (cond t (Some f) before) ≡ option_or (form_from w es (cond t (Some f) None)) before
or-step true w es f before i = rw (i (Some f)) (or-some f (form_from w es None) before)
or-step false w es f before i = i before

abbrev Row : Type 0
Row = Bor (List ℕ) × Command × List Letter × Tail

abbrev pub form_of : Row → Form
form_of e = record { command = e.1; letters = e.2; tail = e.3 }

first-step : (t : Bool) (w : List ℕ) (e : Row) (es : List Entry) (o : Option Row) → (t ≡ true → lacks w es ≡ true)
    → option_map form_of o ≡ form_from w es None → option_map form_of (cond t (Some e) o) ≡ form_from w es (cond t (Some (form_of e)) None)
first-step true w e es o l i = sym (lacks-form w es (Some (form_of e)) (l refl))
first-step false w e es o l i = i

pub first-form : (w : List ℕ) (ts : List Row) → differ (entries_of ts) ≡ true
    → option_map form_of (find (λ e. same w e.0.now) ts) ≡ form_from w (entries_of ts) None
unfolding differ entry_form
first-form w [] h = refl
first-form w (e ∷ ts) h =
    let p = (and-eq-true_iff (lacks e.0.now (entries_of ts)) (differ (entries_of ts))).0 h in
    first-step (same w e.0.now) w e (entries_of ts) (find (λ e. same w e.0.now) ts) (λ q. rw (same-eq w e.0.now q) p.0) (first-form w ts p.1)

-- entries give what the others before them gave only where they have not the word
pub form-or : (w : List ℕ) (es : List Entry) (before : Option Form) → form_from w es before ≡ option_or (form_from w es None) before
unfolding entry_form
form-or w [] before = refl
form-or w (e ∷ es) before = or-step (same w e.word) w es e.form before (form-or w es)
