-- The first fault of a part is that of the whole, and so is the first code that a table lacks.
use Rattle.std.proofs.Common.{◌≡◌, ℕ, ◌+◌, Bool, not, Result, Ok, Err, Option, None, Some, List, [], ◌∷◌, ◌++◌, refl, sym, ◌∙◌, ap}
use Rattle.std.specs.Option.{option_or}
use Rattle.std.proofs.lemmas.List.Folds.{find-append}
use Rattle.ref_value.specs.Edn.{Edn}
use Rattle.ref_fun.specs.Meaning.{Means}
use Rattle.ref_log.specs.declared.faults.AuditFault.{AuditFault}
use Rattle.ref_log.specs.declared.faults.AuditFault.TheVariants.{Answer, Refuses, NoSuch, Memory, NoSuchFun}
use Rattle.ref_log.specs.declared.operations.Done.{Done}
use Rattle.ref_log.specs.declared.entries.Entry.{Entry}
use Rattle.ref_log.specs.declared.states.PlainState.{PlainState}
use Rattle.ref_log.specs.Replay.{is_protected, after_one, after_done, after_dones, step, replay_from, missing, needed_of_done, needed_of_dones, needed_of_step, needed_from, FaultComes}
use Rattle.ref_log.specs.Laws.{after_dones-Err, replay_from-Err}

module _ (means : Means) where
  -- ---- nothing is needed behind a fault

  needed_of_dones-Err : (all : List Done) (point : ℕ) (ds : List Done) (fault : AuditFault) → needed_of_dones means all point ds (Err fault) ≡ []
  needed_of_dones-Err all point [] fault = refl
  needed_of_dones-Err all point (d ∷ ds) fault = needed_of_dones-Err all point ds fault

  needed_from-Err : (point : ℕ) (es : List Entry) (fault : AuditFault) → needed_from means point es (Err fault) ≡ []
  needed_from-Err point [] fault = refl
  needed_from-Err point (e ∷ es) fault = needed_from-Err (point + 1) es fault

  -- an entry that doesn't fail, before those that are left
  pub replay_of_later : (point : ℕ) (left es : List Entry) (e : Entry) (state after : PlainState) → left ≡ e ∷ es → step means (point + 1) e state ≡ Ok after → replay_from means point left (Ok state) ≡ replay_from means (point + 1) es (Ok after)
  replay_of_later point left es e state after first ok =
      ap (λ l. replay_from means point l (Ok state)) first ∙ ap (replay_from means (point + 1) es) ok

module _ (knows : ℕ → Bool) where
  -- ---- codes that are missing, in two lists of codes

  pub missing-append : (codes others : List ℕ) → missing knows codes ≡ None → missing knows (codes ++ others) ≡ missing knows others
  missing-append codes others none = find-append (λ c. not (knows c)) codes others ∙ ap (λ o. option_or o (missing knows others)) none

  pub missing_first : (codes others : List ℕ) (c : ℕ) → missing knows codes ≡ Some c → missing knows (codes ++ others) ≡ Some c
  missing_first codes others c some = find-append (λ c. not (knows c)) codes others ∙ ap (λ o. option_or o (missing knows others)) some

  missing_none : (codes others : List ℕ) → missing knows codes ≡ None → others ≡ [] → missing knows (codes ++ others) ≡ None
  missing_none codes others none empty = missing-append codes others none ∙ ap (missing knows) empty

  -- ---- what comes of a part, comes of the whole

  fault_lifts : {A B : Type 0} → (codes others : List ℕ) (part : Result A AuditFault) (whole : Result B AuditFault) (lacks : Option ℕ) (fault : AuditFault) → missing knows (codes ++ others) ≡ lacks → ((f : AuditFault) → part ≡ Err f → (others ≡ []) × (whole ≡ Err f)) → FaultComes (missing knows codes) part fault → FaultComes lacks whole fault
  fault_lifts codes others part whole lacks (Answer point) so_far lifts here =
      (sym so_far ∙ missing_none codes others here.0 (lifts (Answer point) here.1).0, (lifts (Answer point) here.1).1)
  fault_lifts codes others part whole lacks (Refuses point) so_far lifts here =
      (sym so_far ∙ missing_none codes others here.0 (lifts (Refuses point) here.1).0, (lifts (Refuses point) here.1).1)
  fault_lifts codes others part whole lacks (NoSuch point) so_far lifts here =
      (sym so_far ∙ missing_none codes others here.0 (lifts (NoSuch point) here.1).0, (lifts (NoSuch point) here.1).1)
  fault_lifts codes others part whole lacks Memory so_far lifts here = tt
  fault_lifts codes others part whole lacks (NoSuchFun code) so_far lifts here = sym so_far ∙ missing_first codes others code here

  module _ (means : Means) where
    -- an operation that fails, in its entry
    pub entry_fails : (all : List Done) (free : Bool) (point : ℕ) (left ds : List Done) (d : Done) (values : List Edn) (whole : Result (List Edn) AuditFault) (lacks : Option ℕ) (fault : AuditFault) → after_dones means all point left (Ok values) ≡ whole → missing knows (needed_of_dones means all point left (Ok values)) ≡ lacks → left ≡ d ∷ ds → free ≡ not (is_protected all d.r) → FaultComes (missing knows (needed_of_done d (Ok values))) (after_one means free point d values) fault → FaultComes lacks whole fault
    entry_fails all free point left ds d values whole lacks fault so_far lacks_so_far first is here =
        let others = needed_of_dones means all point ds (after_done means all point d values) in
        fault_lifts (needed_of_done d (Ok values)) others (after_one means free point d values) whole lacks fault
        (ap (λ l. missing knows (needed_of_dones means all point l (Ok values))) (sym first) ∙ lacks_so_far)
        (λ f e. let fails : after_done means all point d values ≡ Err f = ap (λ b. after_one means b point d values) (sym is) ∙ e in (ap (needed_of_dones means all point ds) fails ∙ needed_of_dones-Err means all point ds f, sym so_far ∙ (ap (λ l. after_dones means all point l (Ok values)) first ∙ (ap (after_dones means all point ds) fails ∙ after_dones-Err means all point ds f)))) here

    -- and one that doesn't
    pub needed_of_rest : (all : List Done) (free : Bool) (point : ℕ) (left ds : List Done) (d : Done) (values after : List Edn) → left ≡ d ∷ ds → free ≡ not (is_protected all d.r) → after_one means free point d values ≡ Ok after → missing knows (needed_of_done d (Ok values)) ≡ None → missing knows (needed_of_dones means all point left (Ok values)) ≡ missing knows (needed_of_dones means all point ds (Ok after))
    needed_of_rest all free point left ds d values after first is ok none =
        let done : after_done means all point d values ≡ Ok after = ap (λ b. after_one means b point d values) (sym is) ∙ ok in
        ap (λ l. missing knows (needed_of_dones means all point l (Ok values))) first ∙ (missing-append (needed_of_done d (Ok values)) (needed_of_dones means all point ds (after_done means all point d values)) none ∙ ap (λ v. missing knows (needed_of_dones means all point ds v)) done)

    -- an entry that fails, before those that are left
    pub log_fails : (p : ℕ) (left es : List Entry) (e : Entry) (state : PlainState) (whole : Result PlainState AuditFault) (lacks : Option ℕ) (fault : AuditFault) → replay_from means p left (Ok state) ≡ whole → missing knows (needed_from means p left (Ok state)) ≡ lacks → left ≡ e ∷ es → FaultComes (missing knows (needed_of_step means (p + 1) e state)) (step means (p + 1) e state) fault → FaultComes lacks whole fault
    log_fails p left es e state whole lacks fault so_far lacks_so_far first here =
        let point = p + 1 in
        fault_lifts (needed_of_step means point e state) (needed_from means point es (step means point e state)) (step means point e state) whole lacks fault
        (ap (λ l. missing knows (needed_from means p l (Ok state))) (sym first) ∙ lacks_so_far)
        (λ f q. (ap (needed_from means point es) q ∙ needed_from-Err means point es f, sym so_far ∙ (ap (λ l. replay_from means p l (Ok state)) first ∙ (ap (replay_from means point es) q ∙ replay_from-Err means point es f)))) here

    -- and one that doesn't
    pub needed_of_later : (p : ℕ) (left es : List Entry) (e : Entry) (state after : PlainState) → left ≡ e ∷ es → step means (p + 1) e state ≡ Ok after → missing knows (needed_of_step means (p + 1) e state) ≡ None → missing knows (needed_from means p left (Ok state)) ≡ missing knows (needed_from means (p + 1) es (Ok after))
    needed_of_later p left es e state after first ok none =
        let point = p + 1 in
        ap (λ l. missing knows (needed_from means p l (Ok state))) first ∙ (missing-append (needed_of_step means point e state) (needed_from means point es (step means point e state)) none ∙ ap (λ v. missing knows (needed_from means point es v)) ok)
