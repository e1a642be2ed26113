-- Where a text in UTF-8 may be cut: round a byte below 128.
use Rattle.std.proofs.Common.{◌≡◌, ℕ, ◌<◌, List, [], ◌∷◌, ◌++◌, length, get_or, refl, subst, arith, length-append}
use Rattle.std.specs.Prelude.{IsUtf8}
use Rattle.std.proofs.lemmas.List.{take_at, drop_at, get_or_at}
use Rattle.std.proofs.lemmas.Bool.Decides.{nat_tests}
use Rattle.std.proofs.lemmas.Str.{IsUtf8-take, IsUtf8-drop, IsUtf8-append, IsUtf8-encode, encode_ascii, IsCharBoundary-before_ascii, IsCharBoundary-after_ascii}

pub utf8_cut : (a : List ℕ) (b : ℕ) (rest : List ℕ) → b < 128 → IsUtf8 (a ++ b ∷ rest) → IsUtf8 a × IsUtf8 (b ∷ rest)
utf8_cut a b rest small u =
    let e : get_or (a ++ b ∷ rest) (length a) 0 ≡ b = get_or_at a b rest 0 (length a) refl in
    let i : length a < length (a ++ b ∷ rest) = omega (arith, length-append a (b ∷ rest)) in
    let l : get_or (a ++ b ∷ rest) (length a) 0 < 128 = omega arith in
    let at = IsCharBoundary-before_ascii (a ++ b ∷ rest) (length a) i l in (
      subst IsUtf8 (take_at a (b ∷ rest) (length a) refl) (IsUtf8-take (a ++ b ∷ rest) (length a) u at),
      subst IsUtf8 (drop_at a (b ∷ rest) (length a) refl) (IsUtf8-drop (a ++ b ∷ rest) (length a) u at),
    )

pub utf8_tail : (b : ℕ) (rest : List ℕ) → b < 128 → IsUtf8 (b ∷ rest) → IsUtf8 rest
utf8_tail b rest small u = IsUtf8-drop (b ∷ rest) 1 u (IsCharBoundary-after_ascii (b ∷ rest) 0 u (omega arith) small)

pub utf8_one : (b : ℕ) (rest : List ℕ) → b < 128 → IsUtf8 rest → IsUtf8 (b ∷ rest)
utf8_one b rest small u =
    let one : IsUtf8 (b ∷ []) = subst IsUtf8 (encode_ascii b small) (IsUtf8-encode b (grind (arith, nat_tests))) in
    IsUtf8-append (b ∷ []) rest one u
