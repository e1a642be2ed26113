-- Looks at what is waited for.
use Rattle.std.proofs.Common.{◌≡◌, ℕ, zero, suc, Bool, true, false, List, [], ◌∷◌, map, Option, ap, arith, refl, sym, subst, if◌then◌else◌}
use Rattle.std.specs.Prelude.{is_some}
use Rattle.std.specs.List.{IsAmong}
use Rattle.std.specs.BTreeMap.{BTreeMap}
use Rattle.ref_agents.specs.Agents.{error_at}
use Rattle.ref_agents.specs.declared.agents.Agent.{Agent}
use Rattle.ref_shared.specs.Waits.{NamesNoOther, NamesOneOf, is_through, left_of, look_of, target_of}
use Rattle.ref_shared.specs.declared.faults.AwaitFault.{AwaitFault}
use Rattle.ref_shared.specs.declared.faults.AwaitFault.TheVariants as awaits
use Rattle.ref_shared.specs.declared.waiters.Awaited.{Awaited}
use Rattle.ref_shared.specs.declared.waiters.Look.{Look}
use Rattle.ref_shared.specs.declared.waiters.Look.TheVariants.{Through, Left, Failed}
use Rattle.ref_shared.specs.declared.waiters.Target.{Target}

pub left_twice : (look : Look) → left_of (left_of look) ≡ left_of look
left_twice Through = refl
left_twice Left = refl
left_twice (Failed g) = refl

abbrev named_or : ℕ → Look → ℕ
named_or other Through = other
named_or other Left = other
named_or other (Failed g) = g

-- It names an agent.
abbrev Names : Look → Type 0
Names Through = ⊥
Names Left = ⊥
Names (Failed g) = Unit {0}

named : (g : ℕ) (look : Look) → look ≡ Failed g → Names look
named g look is = subst Names (sym is) tt

left_name : (g : ℕ) (look : Look) → left_of look ≡ Failed g → look ≡ Failed g
left_name g Through is = absurd (named g Left is)
left_name g Left is = absurd (named g Left is)
left_name g (Failed h) is = is

among_more : (x : ℕ) (xs : List ℕ) (v : ℕ) → IsAmong xs v → IsAmong (x ∷ xs) v
among_more x xs v among = (suc among.0, (omega (arith, among.1.0), among.1.1))

by_error : (awaited : Option (BTreeMap ℕ Awaited)) (agents : List Agent) (target : Target) (targets : List Target) (g : ℕ) (b : Bool)
    → (look_of awaited agents targets ≡ Failed g → IsAmong (map (λ (t : Target). t.g) targets) g)
    → (if b then Failed target.g else left_of (look_of awaited agents targets)) ≡ Failed g
    → IsAmong (map (λ (t : Target). t.g) (target ∷ targets)) g
by_error awaited agents target targets g true later is = (zero, (omega arith, sym (ap (named_or g) is)))
by_error awaited agents target targets g false later is = among_more target.g _ g (later (left_name g _ is))

by_through : (awaited : Option (BTreeMap ℕ Awaited)) (agents : List Agent) (target : Target) (targets : List Target) (g : ℕ) (b : Bool)
    → (look_of awaited agents targets ≡ Failed g → IsAmong (map (λ (t : Target). t.g) targets) g)
    → (if b then look_of awaited agents targets
    else if is_some (error_at agents target.g) then Failed target.g else left_of (look_of awaited agents targets)) ≡ Failed g
    → IsAmong (map (λ (t : Target). t.g) (target ∷ targets)) g
by_through awaited agents target targets g true later is = among_more target.g _ g (later is)
by_through awaited agents target targets g false later is = by_error awaited agents target targets g (is_some (error_at agents target.g)) later is

-- the agent that a look names is one of those that are waited for
look_names : (awaited : Option (BTreeMap ℕ Awaited)) (agents : List Agent) (targets : List Target) (g : ℕ)
    → look_of awaited agents targets ≡ Failed g → IsAmong (map (λ (t : Target). t.g) targets) g
look_names awaited agents [] g is = absurd (named g Through is)
look_names awaited agents (target ∷ targets) g is =
    by_through awaited agents target targets g (is_through awaited target) (look_names awaited agents targets g) is

pub of_targets : (awaited : Option (BTreeMap ℕ Awaited)) (agents : List Agent) (gs : List ℕ) → map (λ (t : Target). t.g) (map (target_of awaited agents) gs) ≡ gs
of_targets awaited agents [] = refl
of_targets awaited agents (g ∷ gs) = ap (λ rest. g ∷ rest) (of_targets awaited agents gs)

pub names_one : (awaited : Option (BTreeMap ℕ Awaited)) (agents : List Agent) (targets : List Target) (gs : List ℕ) (g : ℕ)
    → map (λ (t : Target). t.g) targets ≡ gs → look_of awaited agents targets ≡ Failed g → IsAmong gs g
names_one awaited agents targets gs g are is = subst (λ xs. IsAmong xs g) are (look_names awaited agents targets g is)

-- What a fault of one agent of several names is one of them.
pub names_among : (agents : List ℕ) (g : ℕ) (fault : AwaitFault) → NamesNoOther g fault → IsAmong agents g → NamesOneOf agents fault
names_among agents g (awaits.NoSuchAgent h) same among = subst (IsAmong agents) (sym same) among
names_among agents g (awaits.Failed h) never among = absurd never
names_among agents g awaits.Closed any among = tt
names_among agents g awaits.Memory any among = tt
