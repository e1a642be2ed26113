-- What the tests of a base say together.
use Rattle.std.proofs.Common.{◌≡◌, ℕ, ◌<◌, List, [], ◌∷◌, Option, get_or, length, map, refl, ap, ◌∙◌, zero, suc, arith}
use Rattle.std.specs.Prelude.{position}
use Rattle.ref_value.specs.Edn.{Edn}
use Rattle.ref_log.specs.declared.states.Base.{Base}
use Rattle.ref_workload.specs.Orderly.{base_declared}
use Rattle.ref_agents.specs.declared.starts.AtomStart.{AtomStart}
use Rattle.ref_agents.specs.declared.starts.RefStart.{RefStart}

abbrev base_of : ℕ → List Edn → List ℕ → List Edn → Option ℕ → ℕ → ℕ → ℕ → Base
base_of point refs last atoms tally commits added taken = record {
  point = point;
  refs = refs;
  last = last;
  atoms = atoms;
  tally = tally;
  commits = commits;
  added = added;
  taken = taken;
}

-- A base of these parts is the declared one.
pub base_is : (b : Base) (refs : List RefStart) (atoms : List AtomStart)
    → b.point ≡ 0 → b.commits ≡ 0 → b.added ≡ 0 → b.taken ≡ 0
    → b.tally ≡ position (λ (r : RefStart). r.tally) refs → b.refs ≡ map (λ (r : RefStart). r.value) refs
    → b.last ≡ map (λ (r : RefStart). 0) refs → b.atoms ≡ map (λ (a : AtomStart). a.value) atoms
    → b ≡ base_declared refs atoms
base_is b refs atoms point commits added taken tally values lasts atom_values =
    ap (λ x. base_of x b.refs b.last b.atoms b.tally b.commits b.added b.taken) point
    ∙ (ap (λ x. base_of 0 x b.last b.atoms b.tally b.commits b.added b.taken) values
    ∙ (ap (λ x. base_of 0 (map (λ (r : RefStart). r.value) refs) x b.atoms b.tally b.commits b.added b.taken) lasts
    ∙ (ap (λ x. base_of 0 (map (λ (r : RefStart). r.value) refs) (map (λ (r : RefStart). 0) refs) x b.tally b.commits b.added b.taken) atom_values
    ∙ (ap (λ x. base_of 0 (map (λ (r : RefStart). r.value) refs) (map (λ (r : RefStart). 0) refs) (map (λ (a : AtomStart). a.value) atoms) x b.commits b.added b.taken) tally
    ∙ (ap (λ x. base_of 0 (map (λ (r : RefStart). r.value) refs) (map (λ (r : RefStart). 0) refs) (map (λ (a : AtomStart). a.value) atoms) (position (λ (r : RefStart). r.tally) refs) x b.added b.taken) commits
    ∙ (ap (λ x. base_of 0 (map (λ (r : RefStart). r.value) refs) (map (λ (r : RefStart). 0) refs) (map (λ (a : AtomStart). a.value) atoms) (position (λ (r : RefStart). r.tally) refs) 0 x b.taken) added
    ∙ ap (λ x. base_of 0 (map (λ (r : RefStart). r.value) refs) (map (λ (r : RefStart). 0) refs) (map (λ (a : AtomStart). a.value) atoms) (position (λ (r : RefStart). r.tally) refs) 0 0 x) taken))))))

-- A list of so many zeros.
pub zeros : (refs : List RefStart) (lasts : List ℕ) → length refs ≡ length lasts → ((k : ℕ) → k < length refs → get_or lasts k 0 ≡ 0) → lasts ≡ map (λ (r : RefStart). 0) refs
zeros [] [] same all = refl
zeros [] (x ∷ xs) same all = absurd (omega arith)
zeros (r ∷ rs) [] same all = absurd (omega arith)
zeros (r ∷ rs) (x ∷ xs) same all =
    let first : x ≡ 0 = all zero (omega arith) in
    let rest : xs ≡ map (λ (r : RefStart). 0) rs = zeros rs xs (omega arith) (λ k below. all (suc k) (omega (arith, below))) in
    ap (λ y. y ∷ xs) first ∙ ap (λ ys. 0 ∷ ys) rest

-- Each of so many zeros is one.
pub zero_at : (refs : List RefStart) (lasts : List ℕ) (i : ℕ) → lasts ≡ map (λ (r : RefStart). 0) refs → get_or lasts i 0 ≡ 0
zero_at refs lasts i is = ap (λ xs. get_or xs i 0) is ∙ zero_in refs i
  where
    zero_in : (rs : List RefStart) (k : ℕ) → get_or {A = ℕ} (map {A = RefStart} {B = ℕ} (λ r. 0) rs) k 0 ≡ 0
    zero_in [] k = refl
    zero_in (r ∷ rs) zero = refl
    zero_in (r ∷ rs) (suc k) = zero_in rs k
