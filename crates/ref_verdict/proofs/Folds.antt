-- A fold of done actions that refused.
use Rattle.std.proofs.Common.{◌≡◌, ℕ, suc, ◌+◌, ◌<◌, List, [], ◌∷◌, drop, length, get_or, Ok, Err, refl, sym, ap, ◌∙◌, add-one, drop-cons}
use Rattle.ref_value.specs.Edn.{Edn}
use Rattle.ref_fun.specs.Meaning.{Means}
use Rattle.ref_fun.specs.declared.faults.Cause.{Cause}
use Rattle.ref_agents.specs.Account.{after_handled, after_marked}
use Rattle.ref_agents.specs.declared.accounts.Handled.{Handled}

pub after_handled_refused : (means : Means) (hs : List Handled) (cause : Cause) → after_handled means hs (Err cause) ≡ Err cause
after_handled_refused means [] cause = refl
after_handled_refused means (h ∷ hs) cause = after_handled_refused means hs cause

-- the action at a place refuses
pub refused_at : (means : Means) (hs : List Handled) (i : ℕ) (h : Handled) (state : Edn) (cause : Cause) → i < length hs → h ≡ get_or hs i h → after_marked means h.mark h.action state ≡ Err cause → after_handled means (drop i hs) (Ok state) ≡ Err cause
refused_at means hs i h state cause within is refuses =
    let rest = drop (i + 1) hs in
    let here : drop i hs ≡ h ∷ rest = rw (add-one) (drop-cons hs i h within ∙ ap (λ x. x ∷ drop (suc i) hs) (sym is)) in
    ap (λ l. after_handled means l (Ok state)) here ∙ (ap (after_handled means rest) refuses ∙ after_handled_refused means rest cause)
