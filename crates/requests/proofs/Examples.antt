-- Lines of the console's guide, and what they ask.
use mathlib.Core.Path.{◌≡◌, refl}
use mathlib.Core.List.{[], ◌∷◌}
use lib.IntN.{pos, negsuc}
use Rattle.std.specs.Prelude.{Some}
use Rattle.walk.specs.declared.Way.TheVariants.{Plain, Inverted, Conversed, Transposed}
use Rattle.recipes.specs.Codes.{step_code}
use Rattle.lines.specs.Ascii.{ascii}
use Rattle.lines.specs.Words.{before, parted, same}
use Rattle.lines.specs.Decimal.{all_numerals, value_from}
use Rattle.lines.specs.Hexadecimal.{all_digits, spelled_bytes}
use Rattle.requests.specs.declared.commands.Command.TheVariants.{Load, Length, Operation, Recipe, Build, Carry, Add, Sentence}
use Rattle.requests.specs.declared.commands.Kind.TheVariants.{Product, Submatrix, Schur}
use Rattle.requests.specs.declared.commands.Mode.TheVariants.{Direct, Foretold}
use Rattle.requests.specs.Commands.{entry_form, mode_of, form_by}
use Rattle.requests.specs.Lists.{spelled_list}
use Rattle.requests.specs.Items.{spelled_item}
use Rattle.requests.specs.Steps.{spelled_way, spelled_step}
use Rattle.requests.specs.Requests.{asked_alone, asked_bytes, asked_items, asked_wholes, bad, letter_numbers, request_of}

product : request_of (ascii "product 0 1 2") ≡ Some (asked_alone (Operation Direct Product) (0 ∷ 1 ∷ 0 ∷ 2 ∷ []))
unfolding request_of mode_of form_by entry_form same parted letter_numbers all_numerals value_from
product = refl

-- its forecast has no target
product-foretold : request_of (ascii "forecast product 0 1") ≡ Some (asked_alone (Operation Foretold Product) (0 ∷ 1 ∷ 0 ∷ 0 ∷ []))
unfolding request_of mode_of form_by entry_form same parted letter_numbers all_numerals value_from
product-foretold = refl

product-target : request_of (ascii "forecast product 0 1 2") ≡ bad
unfolding request_of mode_of form_by entry_form same parted letter_numbers all_numerals value_from
product-target = refl

submatrix-foretold : request_of (ascii "forecast submatrix 0 3 5") ≡ Some (asked_alone (Operation Foretold Submatrix) (0 ∷ 3 ∷ 5 ∷ 0 ∷ []))
unfolding request_of mode_of form_by entry_form same parted letter_numbers all_numerals value_from
submatrix-foretold = refl

schur : request_of (ascii "schur 3 1 4") ≡ Some (asked_alone (Operation Direct Schur) (3 ∷ 1 ∷ 0 ∷ 4 ∷ []))
unfolding request_of mode_of form_by entry_form same parted letter_numbers all_numerals value_from
schur = refl

schur-foretold : request_of (ascii "forecast schur 3 4294967295") ≡ Some (asked_alone (Operation Foretold Schur) (3 ∷ 4294967295 ∷ 0 ∷ 0 ∷ []))
unfolding request_of mode_of form_by entry_form same parted letter_numbers all_numerals value_from
schur-foretold = refl

-- a recipe: the codes of its steps, and its target behind three numbers that are not asked for
recipe : request_of (ascii "recipe 7 0,plain 1,transpose 2,inverse 3,converse")
    ≡ Some (asked_wholes (Recipe Direct) (0 ∷ 0 ∷ 0 ∷ 7 ∷ []) (step_code Plain 0 ∷ step_code Transposed 1 ∷ step_code Inverted 2 ∷ step_code Conversed 3 ∷ []))
unfolding request_of mode_of form_by entry_form same parted letter_numbers all_numerals value_from spelled_list before spelled_way step_code spelled_step
recipe = refl

-- no step
recipe-none : request_of (ascii "recipe 7") ≡ Some (asked_wholes (Recipe Direct) (0 ∷ 0 ∷ 0 ∷ 7 ∷ []) [])
unfolding request_of mode_of form_by entry_form same parted letter_numbers all_numerals value_from spelled_list before spelled_way step_code spelled_step
recipe-none = refl

-- the largest place
recipe-largest : request_of (ascii "recipe 4294967295 4294967295,transpose")
    ≡ Some (asked_wholes (Recipe Direct) (0 ∷ 0 ∷ 0 ∷ 4294967295 ∷ []) (step_code Transposed 4294967295 ∷ []))
unfolding request_of mode_of form_by entry_form same parted letter_numbers all_numerals value_from spelled_list before spelled_way step_code spelled_step
recipe-largest = refl

-- its forecast has no target
recipe-foretold : request_of (ascii "forecast recipe 0,plain 1,transpose 0,inverse")
    ≡ Some (asked_wholes (Recipe Foretold) (0 ∷ 0 ∷ 0 ∷ 0 ∷ []) (step_code Plain 0 ∷ step_code Transposed 1 ∷ step_code Inverted 0 ∷ []))
unfolding request_of mode_of form_by entry_form same parted letter_numbers all_numerals value_from spelled_list before spelled_way step_code spelled_step
recipe-foretold = refl

-- no place, no way, a place too large, and a second comma
recipe-placeless : request_of (ascii "recipe 7 ,plain") ≡ bad
unfolding request_of mode_of form_by entry_form same parted letter_numbers all_numerals value_from spelled_list before spelled_way step_code spelled_step
recipe-placeless = refl

recipe-wayless : request_of (ascii "recipe 7 0") ≡ bad
unfolding request_of mode_of form_by entry_form same parted letter_numbers all_numerals value_from spelled_list before spelled_way step_code spelled_step
recipe-wayless = refl

recipe-larger : request_of (ascii "recipe 7 4294967296,plain") ≡ bad
unfolding request_of mode_of form_by entry_form same parted letter_numbers all_numerals value_from spelled_list before spelled_way step_code spelled_step
recipe-larger = refl

recipe-commas : request_of (ascii "recipe 7 0,plain,") ≡ bad
unfolding request_of mode_of form_by entry_form same parted letter_numbers all_numerals value_from spelled_list before spelled_way step_code spelled_step
recipe-commas = refl

-- a word that is no operation's, none, and the same once more
drop-foretold : request_of (ascii "forecast drop 0") ≡ bad
unfolding request_of mode_of form_by entry_form same parted letter_numbers all_numerals value_from
drop-foretold = refl

none-foretold : request_of (ascii "forecast") ≡ bad
unfolding request_of mode_of form_by entry_form same parted letter_numbers all_numerals value_from
none-foretold = refl

twice-foretold : request_of (ascii "forecast forecast product 0 1") ≡ bad
unfolding request_of mode_of form_by entry_form same parted letter_numbers all_numerals value_from
twice-foretold = refl

length : request_of (ascii "length 3") ≡ Some (asked_alone Length (3 ∷ 0 ∷ 0 ∷ 0 ∷ []))
unfolding request_of mode_of form_by entry_form same parted letter_numbers all_numerals value_from
length = refl

load : request_of (ascii "load 3 02ca") ≡ Some (asked_bytes Load (3 ∷ 0 ∷ 0 ∷ 0 ∷ []) (2 ∷ 202 ∷ []))
unfolding request_of mode_of form_by entry_form same parted letter_numbers all_numerals value_from all_digits spelled_bytes
load = refl

carry : request_of (ascii "carry 0 3 -1,2147483648,-31") ≡ Some (asked_items Carry (0 ∷ 3 ∷ 0 ∷ 0 ∷ []) (negsuc 0 ∷ pos 2147483648 ∷ negsuc 30 ∷ []))
unfolding request_of mode_of form_by entry_form same parted letter_numbers all_numerals value_from spelled_item spelled_list before
carry = refl

add : request_of (ascii "add 1,2147483648,-31 -1,3221225472,-30")
    ≡ Some (asked_items Add (0 ∷ 0 ∷ 0 ∷ 0 ∷ []) (pos 1 ∷ pos 2147483648 ∷ negsuc 30 ∷ negsuc 0 ∷ pos 3221225472 ∷ negsuc 29 ∷ []))
unfolding request_of mode_of form_by entry_form same parted letter_numbers all_numerals value_from spelled_item spelled_list before
add = refl

-- a word lacks
minor : request_of (ascii "minor 0 1") ≡ bad
unfolding request_of mode_of form_by entry_form same parted letter_numbers all_numerals value_from
minor = refl

-- one item, and three
add-one : request_of (ascii "add 1,2147483648,-31") ≡ bad
unfolding request_of mode_of form_by entry_form same parted letter_numbers all_numerals value_from spelled_item spelled_list before
add-one = refl

add-three : request_of (ascii "add 1,2147483648,-31 -1,3221225472,-30 1,2147483648,-31") ≡ bad
unfolding request_of mode_of form_by entry_form same parted letter_numbers all_numerals value_from spelled_item spelled_list before
add-three = refl

build : request_of (ascii "build 3 1 3 7") ≡ Some (asked_wholes Build (3 ∷ 0 ∷ 0 ∷ 0 ∷ []) (1 ∷ 3 ∷ 7 ∷ []))
unfolding request_of mode_of form_by entry_form same parted letter_numbers all_numerals value_from spelled_list
build = refl

-- no stamp
build-none : request_of (ascii "build 0") ≡ Some (asked_wholes Build (0 ∷ 0 ∷ 0 ∷ 0 ∷ []) [])
unfolding request_of mode_of form_by entry_form same parted letter_numbers all_numerals value_from spelled_list
build-none = refl

-- the largest stamp, and one more
build-largest : request_of (ascii "build 3 18446744073709551615") ≡ Some (asked_wholes Build (3 ∷ 0 ∷ 0 ∷ 0 ∷ []) (18446744073709551615 ∷ []))
unfolding request_of mode_of form_by entry_form same parted letter_numbers all_numerals value_from spelled_list
build-largest = refl

build-larger : request_of (ascii "build 3 18446744073709551616") ≡ bad
unfolding request_of mode_of form_by entry_form same parted letter_numbers all_numerals value_from spelled_list
build-larger = refl

-- a word that is no whole number
build-malformed : request_of (ascii "build 3 1 3,7") ≡ bad
unfolding request_of mode_of form_by entry_form same parted letter_numbers all_numerals value_from spelled_list
build-malformed = refl

-- sixteen stamps, and seventeen
build-sixteen : request_of (ascii "build 3 1 2 3 4 5 6 7 8 9 10 11 12 13 14 15 16")
    ≡ Some (asked_wholes Build (3 ∷ 0 ∷ 0 ∷ 0 ∷ []) (1 ∷ 2 ∷ 3 ∷ 4 ∷ 5 ∷ 6 ∷ 7 ∷ 8 ∷ 9 ∷ 10 ∷ 11 ∷ 12 ∷ 13 ∷ 14 ∷ 15 ∷ 16 ∷ []))
unfolding request_of mode_of form_by entry_form same parted letter_numbers all_numerals value_from spelled_list
build-sixteen = refl

build-seventeen : request_of (ascii "build 3 1 2 3 4 5 6 7 8 9 10 11 12 13 14 15 16 17") ≡ bad
unfolding request_of mode_of form_by entry_form same parted letter_numbers all_numerals value_from spelled_list
build-seventeen = refl

sentence : request_of (ascii "sentence 38 11 0 6") ≡ Some (asked_wholes Sentence (38 ∷ 11 ∷ 0 ∷ 0 ∷ []) (6 ∷ []))
unfolding request_of mode_of form_by entry_form same parted letter_numbers all_numerals value_from spelled_list
sentence = refl

-- any number of 32 bits, and one more
sentence-largest : request_of (ascii "sentence 512 256 4294967295 4294967295 0")
    ≡ Some (asked_wholes Sentence (512 ∷ 256 ∷ 4294967295 ∷ 0 ∷ []) (4294967295 ∷ 0 ∷ []))
unfolding request_of mode_of form_by entry_form same parted letter_numbers all_numerals value_from spelled_list
sentence-largest = refl

sentence-larger : request_of (ascii "sentence 512 11 0 4294967296") ≡ bad
unfolding request_of mode_of form_by entry_form same parted letter_numbers all_numerals value_from spelled_list
sentence-larger = refl
