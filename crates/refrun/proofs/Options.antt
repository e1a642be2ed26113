-- What the getters of the command line's matches say of its options.
use Rattle.std.proofs.Common.{◌≡◌, ℕ, List, Bool, true, false, Option, Some, None, Result, codes, refl, ap, ◌∙◌}
use Rattle.std.specs.Option.{unwrap_or}
use Rattle.std.specs.Str.Parse.{ExplainsUnsignedError, HasUnsignedDigitsIfOk, ParsesUnsigned}
use Rattle.std.specs.declared.num.ParseIntError.{ParseIntError}
use Rattle.clap.specs.Matches.{ReadsOne}
use Rattle.clap.specs.Walk.{Text}
use Rattle.refrun.specs.Commands.{IsFlag, IsNumber, IsPoint, IsTries}

pub flag_is : (o : Option Text) (b : Bool) → (o ≡ None → b ≡ false) → (o ≡ Some (codes "true") → b ≡ true) → (o ≡ Some (codes "false") → b ≡ false) → IsFlag o b
flag_is None b none set unset = none refl
flag_is (Some text) b none set unset = (λ e. set (ap Some e), λ e. unset (ap Some e))

-- what reading a number of so many bits says
abbrev pub Reads : ℕ → List ℕ → Result ℕ ParseIntError → Type 0
Reads bits text r = ParsesUnsigned bits 10 text r × ExplainsUnsignedError 10 text r × HasUnsignedDigitsIfOk text r

pub number_is : (o : Option Text) (r : Option ℕ)
    → (o ≡ None → r ≡ None) → ((text : List ℕ) → o ≡ Some text → ReadsOne (Reads 32) text r) → IsNumber o r
number_is None r none value = none refl
number_is (Some text) (Some m) none value = λ numeral small. ap Some (value text refl).0.1
number_is (Some text) None none value = λ numeral small. absurd ((value text refl).1.0 (numeral, small))

pub point_is : (other : ℕ) (o : Option Text) (r : Option ℕ) (n : ℕ)
    → (o ≡ None → r ≡ None) → ((text : List ℕ) → o ≡ Some text → ReadsOne (Reads 64) text r) → n ≡ unwrap_or r other → IsPoint other o n
point_is other None r n none value is = is ∙ ap (λ x. unwrap_or x other) (none refl)
point_is other (Some text) (Some m) n none value is = λ numeral small. is ∙ (value text refl).0.1
point_is other (Some text) None n none value is = λ numeral small. absurd ((value text refl).1.0 (numeral, small))

pub tries_is : (o : Option Text) (r : Option ℕ) (n : ℕ)
    → (o ≡ None → r ≡ None) → ((text : List ℕ) → o ≡ Some text → ReadsOne (Reads 32) text r) → n ≡ unwrap_or r 1000 → IsTries o n
tries_is None r n none value is = is ∙ ap (λ x. unwrap_or x 1000) (none refl)
tries_is (Some text) (Some m) n none value is = λ numeral small. is ∙ (value text refl).0.1
tries_is (Some text) None n none value is = λ numeral small. absurd ((value text refl).1.0 (numeral, small))
