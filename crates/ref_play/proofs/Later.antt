-- What an open transaction relies on stays while others act.
use Rattle.std.proofs.Common.{◌≡◌, ℕ, zero, suc, ◌+◌, ◌<◌, ◌≤◌, cond, Bool, true, false, List, [], ◌∷◌, ◌++◌, length, length-append, Option, None, Some, slice_get, slice_index_or, refl, sym, ap, subst, ◌∙◌, arith, inl, inr, ◌⊎◌}
use Rattle.std.proofs.lemmas.Bool.{cases_eq}
use Rattle.ref_value.specs.Edn.{Edn}
use Rattle.ref_fun.specs.Meaning.{Means}
use Rattle.ref_fun.specs.declared.rules.Rule.{Rule}
use Rattle.ref_log.specs.declared.entries.Entry.{Entry}
use Rattle.ref_log.specs.declared.entries.Stamp.{Stamp}
use Rattle.ref_log.specs.declared.sends.Sent.{Sent}
use Rattle.ref_log.specs.Laws.{step-refs, step-untouched}
use Rattle.ref_log.specs.Replay.{is_touched}
use Rattle.ref_agents.specs.Agents.{AgentsSeen}
use Rattle.ref_agents.specs.declared.accounts.SentBy.TheVariants.{Commit}
use Rattle.ref_tx.specs.Seen.{TxSeen}
use Rattle.ref_refs.specs.Commit.{entry_of}
use Rattle.ref_refs.specs.Seen.{changed_at}
use Rattle.ref_play.specs.Present.{IsCommitted, Present, with_made_ref}
use Rattle.ref_play.specs.Runs.{IsOpen, KnowsTally}
use Rattle.ref_play.proofs.Given.{each-length}
use Rattle.ref_world.specs.World.{values_now}
use Rattle.ref_world.specs.declared.commits.Receipt.{Receipt}

-- Of two moments: a ref that hasn't changed after the first has its value and its last change, and there are no fewer references.
pub record IsLater (old new : Present) : Type 0 where
  pub point : old.point ≤ new.point
  pub count : length old.refs.values ≤ length new.refs.values
  pub same : (r : ℕ) → changed_at new.refs.lasts r ≤ old.point → (changed_at old.refs.lasts r ≡ changed_at new.refs.lasts r) × (slice_get old.refs.values r ≡ slice_get new.refs.values r)
  pub tally : (new.refs.tally ≡ old.refs.tally) ⊎ ((old.refs.tally ≡ None) × (new.refs.tally ≡ Some (length old.refs.values)))
  pub agents : length old.agents.agents ≤ length new.agents.agents

-- where refs stay, but for rules and watches
pub later_refs : (old new : Present) → old.point ≤ new.point → new.refs.values ≡ old.refs.values → new.refs.lasts ≡ old.refs.lasts → new.refs.tally ≡ old.refs.tally → length new.agents.agents ≡ length old.agents.agents → IsLater old new
later_refs old new point values lasts tally agents = record {
  point = point;
  count = rw values (omega arith);
  same = λ r before. (ap (λ l. changed_at l r) (sym lasts), ap (λ l. slice_get l r) (sym values));
  tally = inl tally;
  agents = omega (arith, agents);
}

knows_later : (tx : TxSeen) (before after : Option ℕ) (n : ℕ) → length tx.began ≤ n → KnowsTally tx before → (after ≡ before) ⊎ ((before ≡ None) × (after ≡ Some n)) → KnowsTally tx after
knows_later tx before after n count (inl same) (inl stays) = inl (same ∙ sym stays)
knows_later tx before after n count (inl same) (inr made) = inr (n, same ∙ made.0, made.1, count)
knows_later tx before after n count (inr since) (inl stays) = inr (since.0, since.1, stays ∙ since.2, since.3)
knows_later tx before after n count (inr since) (inr made) =
    let no : Some since.0 ≡ None = sym since.2 ∙ made.0 in
    absurd cc

pub open_later : (means : Means) (old new : Present) (tx : TxSeen) → IsLater old new → IsOpen means old tx → IsOpen means new tx
open_later means old new tx later is = record {
  is = is.is;
  point = omega (arith, is.point, later.point);
  count = omega (arith, is.count, later.count);
  same = λ r before.
      let both = later.same r (omega (arith, before, is.point)) in
      is.same r (subst (λ n. n ≤ tx.read_point) (sym both.0) before) ∙ both.1;
  tally = knows_later tx old.refs.tally new.refs.tally (length old.refs.values) is.count is.tally later.tally;
  agents = omega (arith, is.agents, later.agents);
  sends = is.sends;
}

-- ---- a commit

moved : (b : Bool) (at p last now : ℕ) → now ≡ (cond b at last) → now ≤ p → p < at → (b ≡ false) × (last ≡ now)
moved true at p last now is before past = absurd (omega (arith, is, before, past))
moved false at p last now is before past = (refl, sym is)

pub later_commit : (means : Means) (old new : Present) (a : ℕ) (stamp : Stamp) (tx : TxSeen) (receipt : Receipt) (added : List Entry) → IsCommitted means old a stamp tx receipt added new → IsLater old new
later_commit means old new a stamp tx receipt added is = record {
  point = omega (arith, is.point);
  count = omega (arith, step-refs means (old.point + 1) (entry_of stamp tx) (values_now old.refs old.atoms) (values_now new.refs new.atoms) is.values);
  same = λ r before.
      let stays = moved (is_touched tx.dones r) (old.point + 1) old.point (changed_at old.refs.lasts r) (changed_at new.refs.lasts r) (is.lasts r) before (omega arith) in
      (stays.1, sym (step-untouched means (old.point + 1) (entry_of stamp tx) (values_now old.refs old.atoms) (values_now new.refs new.atoms) r is.values stays.0));
  tally = inl is.tally;
  agents = omega (arith, each-length (λ (s : Sent). s.agent) (λ (s : Sent). s.action) (Commit (old.point + 1)) tx.sends old.agents.agents, ap (λ (s : AgentsSeen). length s.agents) is.agents);
}

-- ---- a ref that is made

pub last-append : (lasts : List ℕ) (at r : ℕ) → (length lasts ≡ r → ⊥) → slice_index_or (lasts ++ at ∷ []) r 0 ≡ slice_index_or lasts r 0
last-append [] at zero other = absurd (other refl)
last-append [] at (suc r) other = refl
last-append (x ∷ xs) at zero other = refl
last-append (x ∷ xs) at (suc r) other = last-append xs at r (λ same. other (ap suc same))

get-append : (values : List Edn) (r : ℕ) (v : Edn) → (length values ≡ r → ⊥) → slice_get (values ++ v ∷ []) r ≡ slice_get values r
get-append [] zero v other = absurd (other refl)
get-append [] (suc r) v other = refl
get-append (x ∷ xs) zero v other = refl
get-append (x ∷ xs) (suc r) v other = get-append xs r v (λ same. other (ap suc same))

pub last-here : (lasts : List ℕ) (at : ℕ) → slice_index_or (lasts ++ at ∷ []) (length lasts) 0 ≡ at
last-here [] at = refl
last-here (x ∷ xs) at = last-here xs at

if-made : (b : Bool) (n : ℕ) (tally : Option ℕ) → (b ≡ true → tally ≡ None) → (cond b (Some n) tally ≡ tally) ⊎ ((tally ≡ None) × (cond b (Some n) tally ≡ Some n))
if-made true n tally none = inr (none refl, refl)
if-made false n tally none = inl refl

pub later_made : (old new : Present) (value : Edn) (rule : Option Rule) (tally : Bool) → length old.refs.lasts ≡ length old.refs.values → (tally ≡ true → old.refs.tally ≡ None)
    → new ≡ with_made_ref old value rule tally → IsLater old new
later_made old new value rule tally lasts none is = subst (IsLater old) (sym is) (record {
  point = omega arith;
  count = omega (arith, length-append old.refs.values (value ∷ []));
  same = λ r before. by r (cases_eq (length old.refs.values) r) before;
  tally = if-made tally (length old.refs.values) old.refs.tally none;
  agents = omega arith;
}) where
  by : (r : ℕ) → (length old.refs.values ≡ r) ⊎ (length old.refs.values ≡ r → ⊥) → changed_at (old.refs.lasts ++ (old.point + 1) ∷ []) r ≤ old.point
      → (changed_at old.refs.lasts r ≡ changed_at (old.refs.lasts ++ (old.point + 1) ∷ []) r) × (slice_get old.refs.values r ≡ slice_get (old.refs.values ++ value ∷ []) r)
  by r (inl here) before =
      let at = last-here old.refs.lasts (old.point + 1) in
      let past = subst (λ n. changed_at (old.refs.lasts ++ (old.point + 1) ∷ []) n ≤ old.point) (sym here ∙ sym lasts) before in
      absurd (omega (arith, at, past))
  by r (inr other) before = (sym (last-append old.refs.lasts (old.point + 1) r (λ same. other (sym lasts ∙ same))), sym (get-append old.refs.values r value other))
