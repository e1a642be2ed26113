-- Lines from a place on.
use Rattle.std.proofs.Common.{◌≡◌, ◌≤◌, ◌<◌, ◌+◌, ℕ, suc, List, [], ◌∷◌, ◌++◌, drop, get_or, length, refl, sym, ◌∙◌, ap, add-one, drop-cons}
use Rattle.std.proofs.lemmas.List.{drop_all}
use Rattle.ref_value.specs.Edn.{Edn, vector, items_of, list_of-items_of}
use Rattle.ref_play.specs.declared.events.Reply.{Reply}
use Rattle.ref_player.specs.Lines.{event_line, event_lines, form_text, spaced}

pub form_text_vector : (xs : List Edn) → form_text (vector (items_of xs)) ≡ spaced xs
form_text_vector xs = ap spaced (list_of-items_of xs)

no_lines : (n : ℕ) (forms : List Edn) → event_lines n forms [] ≡ []
no_lines n [] = refl
no_lines n (form ∷ forms) = refl

-- No reply is left.
pub no_line_at : (n i : ℕ) (forms : List Edn) (replies : List Reply) → length replies ≤ i → event_lines n forms (drop i replies) ≡ []
no_line_at n i forms replies h = ap (event_lines n forms) (drop_all i replies h) ∙ no_lines n forms

-- The first line of those that are left.
pub line_at : (forms : List Edn) (replies : List Reply) (i : ℕ) (form : Edn) (reply : Reply) → i < length replies → reply ≡ get_or replies i reply
    → i < length forms → form ≡ get_or forms i form
    → event_lines i (drop i forms) (drop i replies) ≡ event_line i form reply ++ event_lines (i + 1) (drop (i + 1) forms) (drop (i + 1) replies)
line_at forms replies i form reply h is within there =
    ap (λ (fs : List Edn). event_lines i fs (drop i replies)) (drop-cons forms i form within)
    ∙ ap (λ (rs : List Reply). event_lines i (get_or forms i form ∷ drop (suc i) forms) rs) (drop-cons replies i reply h)
    ∙ ap (λ (x : Edn). event_line i x (get_or replies i reply) ++ event_lines (i + 1) (drop (suc i) forms) (drop (suc i) replies)) (sym there)
    ∙ ap (λ (x : Reply). event_line i form x ++ event_lines (i + 1) (drop (suc i) forms) (drop (suc i) replies)) (sym is)
    ∙ ap (λ (k : ℕ). event_line i form reply ++ event_lines (i + 1) (drop k forms) (drop k replies)) (sym (add-one i))
