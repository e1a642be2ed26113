-- What is escaped is no markup.
use Rattle.std.proofs.Common.{◌≡◌, ◌∙◌, ℕ, ◌==◌, ◌&&◌, Bool, true, false, List, [], ◌∷◌, if◌then◌else◌, refl, ap, codes}
use Rattle.std.proofs.lemmas.List.Folds.{list_all-append}
use Rattle.ref_history.specs.Escaped.{escaped, escaped_byte, is_plain, is_plain_byte}

-- by which of the five it is, if any
plain_by : (b : ℕ) (amp lt gt quote apostrophe : Bool) → (b == 60) ≡ lt → (b == 62) ≡ gt → (b == 34) ≡ quote → (b == 39) ≡ apostrophe
    → is_plain (if amp then codes "&amp;" else if lt then codes "&lt;" else if gt then codes "&gt;" else if quote then codes "&quot;" else if apostrophe then codes "&#39;" else b ∷ []) ≡ true
plain_by b true lt gt quote apostrophe is60 is62 is34 is39 = refl
plain_by b false true gt quote apostrophe is60 is62 is34 is39 = refl
plain_by b false false true quote apostrophe is60 is62 is34 is39 = refl
plain_by b false false false true apostrophe is60 is62 is34 is39 = refl
plain_by b false false false false true is60 is62 is34 is39 = refl
plain_by b false false false false false is60 is62 is34 is39 = rw (is60, is62, is34, is39) refl

byte_plain : (b : ℕ) → is_plain (escaped_byte b) ≡ true
byte_plain b = plain_by b (b == 38) (b == 60) (b == 62) (b == 34) (b == 39) refl refl refl refl

pub escaped_plain : (text : List ℕ) → is_plain (escaped text) ≡ true
escaped_plain [] = refl
escaped_plain (b ∷ bs) = list_all-append is_plain_byte (escaped_byte b) (escaped bs) ∙ (ap (λ r. r && is_plain (escaped bs)) (byte_plain b) ∙ escaped_plain bs)
