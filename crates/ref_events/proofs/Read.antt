-- Events that are read one after another: what a loop over their forms has read, and what is left.
use Rattle.std.proofs.Common.{◌≡◌, ℕ, ◌+◌, ◌<◌, List, [], ◌∷◌, ◌++◌, drop, length, get_or, refl, sym, ◌∙◌, ap, suc, add-one, append_assoc, drop-cons, Option, None, Some}
use Rattle.std.specs.Prelude.{option_map}
use Rattle.ref_value.specs.Edn.{Edn}
use Rattle.ref_forms.specs.Names.{NamesSeen}
use Rattle.ref_forms.specs.Plain.{and_said}
use Rattle.ref_play.specs.declared.events.Event.{Event}
use Rattle.ref_events.specs.Acts.{event_said, events_said}

-- these, and behind them what is left, if that says something
abbrev pub in_front : List Event → Option (List Event) → Option (List Event)
in_front es rest = option_map (λ more. es ++ more) rest

in_front_and_said : (es : List Event) (e : Event) (rest : Option (List Event)) → in_front es (and_said (Some e) rest) ≡ in_front (es ++ e ∷ []) rest
in_front_and_said es e None = refl
in_front_and_said es e (Some more) = ap Some (sym (append_assoc es (e ∷ []) more))

in_front_and_none : (es : List Event) (rest : Option (List Event)) → in_front es (and_said None rest) ≡ None
in_front_and_none es None = refl
in_front_and_none es (Some more) = refl

next_form : (xs : List Edn) (i : ℕ) (x : Edn) → i < length xs → x ≡ get_or xs i x → drop i xs ≡ x ∷ drop (i + 1) xs
next_form xs i x h is = rw (add-one) (drop-cons xs i x h ∙ ap (λ y. y ∷ drop (suc i) xs) (sym is))

module _ (names : NamesSeen) (forms : List Edn) (i : ℕ) (x : Edn) (before : List Event) (within : i < length forms) (is : x ≡ get_or forms i x) where
  at : (said : Option Event) → event_said names i x ≡ said → events_said names i (drop i forms) ≡ and_said said (events_said names (i + 1) (drop (i + 1) forms))
  at said e = ap (events_said names i) (next_form forms i x within is) ∙ ap (λ o. and_said o (events_said names (i + 1) (drop (i + 1) forms))) e

  pub events_more : (e : Event) → event_said names i x ≡ Some e
      → in_front before (events_said names i (drop i forms)) ≡ in_front (before ++ e ∷ []) (events_said names (i + 1) (drop (i + 1) forms))
  events_more e says = ap (in_front before) (at (Some e) says) ∙ in_front_and_said before e (events_said names (i + 1) (drop (i + 1) forms))

  pub events_none : event_said names i x ≡ None → in_front before (events_said names i (drop i forms)) ≡ None
  events_none says = ap (in_front before) (at None says) ∙ in_front_and_none before (events_said names (i + 1) (drop (i + 1) forms))
