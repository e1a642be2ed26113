-- What is dumped says what it was made of: each form is read back.
use Rattle.std.proofs.Common.{◌≡◌, ℕ, zero, suc, ◌+◌, ◌-◌, ◌^◌, ◌<◌, ◌≤◌, min, ◌&&◌, Bool, true, false, nat_le, List, [], ◌∷◌, length, map, Option, None, Some, Ok, refl, sym, ap, subst, ◌∙◌, arith}
use Rattle.std.proofs.lemmas.Bool.Decides.{nat_tests}
use Rattle.std.specs.Prelude.{option_and_then}
use Rattle.std.specs.List.{list_all}
use Rattle.ref_value.specs.Edn.{Edn}
use Rattle.ref_fun.specs.Names.{core_names, is_function, is_predicate}
use Rattle.ref_fun.specs.declared.actions.Action.{Action}
use Rattle.ref_fun.specs.declared.carries.Carry.{Carry}
use Rattle.ref_fun.specs.declared.rules.Rule.{Rule}
use Rattle.ref_log.specs.declared.entries.Entry.{Entry}
use Rattle.ref_log.specs.declared.entries.Entry.TheVariants.{Trans, Atom, MadeRef, MadeAtom}
use Rattle.ref_log.specs.declared.operations.Done.{Done}
use Rattle.ref_log.specs.declared.operations.Op.{Op}
use Rattle.ref_log.specs.declared.operations.Op.TheVariants as ops
use Rattle.ref_log.specs.declared.sends.Sent.{Sent}
use Rattle.ref_agents.specs.declared.accounts.Handled.{Handled}
use Rattle.ref_agents.specs.declared.accounts.Mark.{Mark}
use Rattle.ref_agents.specs.declared.accounts.Mark.TheVariants as marks
use Rattle.ref_agents.specs.declared.accounts.Queued.{Queued}
use Rattle.ref_value.specs.OrderLaws.{edn_eq}
use Rattle.ref_log.specs.Replay.{is_set}
use Rattle.ref_audit.specs.Dumped.{atom_form, done_form, entry_form, handled_form, op_form, queued_form, sent_form}
use Rattle.ref_forms.specs.Calls.{action_of, any, args_said, carrying, code_of, rule_of}
use Rattle.ref_forms.specs.Plain.{all_said, both, elements_of, elements_within, list_said, only_if, stamp_number}
use Rattle.ref_verdict.specs.DumpForm.{action_said, carries_of, carry_of, done_of, entries_from, entry_of, handled_of, queued_of, reference_of, sent_of}
use Rattle.ref_audit.specs.OwnDump.{is_typed_action, is_typed_args, is_typed_carries, is_typed_carry, is_typed_entry, is_typed_handled, is_typed_number, is_typed_op, is_typed_queued, is_typed_sent, is_typed_done, is_typed_rule, is_typed_stamp, is_reset}
use Rattle.ref_verdict.specs.Words.{action_forms, carries_form, carry_form, name_form, number_form, rule_form, vector_form}
use Rattle.ref_verdict.specs.declared.reading.dumps.Version.TheVariants.{Three}
use Rattle.ref_forms.specs.Laws.{args_said_few, elements_of_vector, rule_of_vector}

split : (a b : Bool) → (a && b) ≡ true → (a ≡ true) × (b ≡ true)
split true b e = (refl, e)
split false b e = absurd cc

-- ---- numbers

pub clamp_back : (n : ℕ) → is_typed_number n ≡ true → min n (2 ^ 32 - 1) ≡ n
clamp_back n typed =
    let below : n < 2 ^ 32 = grind (arith, nat_tests) in
    omega arith

pub reference_back : (n : ℕ) → is_typed_number n ≡ true → reference_of (number_form n) ≡ Some n
reference_back n typed =
    let below : n < 2 ^ 32 = grind (arith, nat_tests) in
    let same : min n (2 ^ 32 - 1) ≡ n = omega arith in
    ap Some same

pub stamp_back : (n : ℕ) → is_typed_number n ≡ true → stamp_number (number_form n) ≡ Some n
stamp_back n typed = ap (λ b. only_if b n) typed

-- ---- names

function_back_by : (k : ℕ) → k ≤ 9 → code_of is_function (name_form (1 + k)) ≡ Some (1 + k)
unfolding core_names
function_back_by zero h = refl
function_back_by (suc zero) h = refl
function_back_by (suc (suc zero)) h = refl
function_back_by (suc (suc (suc zero))) h = refl
function_back_by (suc (suc (suc (suc zero)))) h = refl
function_back_by (suc (suc (suc (suc (suc zero))))) h = refl
function_back_by (suc (suc (suc (suc (suc (suc zero)))))) h = refl
function_back_by (suc (suc (suc (suc (suc (suc (suc zero))))))) h = refl
function_back_by (suc (suc (suc (suc (suc (suc (suc (suc zero)))))))) h = refl
function_back_by (suc (suc (suc (suc (suc (suc (suc (suc (suc zero))))))))) h = refl
function_back_by (suc (suc (suc (suc (suc (suc (suc (suc (suc (suc k)))))))))) h = absurd (omega arith)

predicate_back_by : (k : ℕ) → k ≤ 8 → code_of is_predicate (name_form (101 + k)) ≡ Some (101 + k)
unfolding core_names
predicate_back_by zero h = refl
predicate_back_by (suc zero) h = refl
predicate_back_by (suc (suc zero)) h = refl
predicate_back_by (suc (suc (suc zero))) h = refl
predicate_back_by (suc (suc (suc (suc zero)))) h = refl
predicate_back_by (suc (suc (suc (suc (suc zero))))) h = refl
predicate_back_by (suc (suc (suc (suc (suc (suc zero)))))) h = refl
predicate_back_by (suc (suc (suc (suc (suc (suc (suc zero))))))) h = refl
predicate_back_by (suc (suc (suc (suc (suc (suc (suc (suc zero)))))))) h = refl
predicate_back_by (suc (suc (suc (suc (suc (suc (suc (suc (suc k))))))))) h = absurd (omega arith)

pub function_back : (code : ℕ) → is_function code ≡ true → code_of is_function (name_form code) ≡ Some code
function_back code is =
    let p = split (nat_le 1 code) (nat_le code 10) is in
    let low : nat_le 1 code ≡ true = p.0 in
    let high : nat_le code 10 ≡ true = p.1 in
    let least : 1 ≤ code = grind (arith, nat_tests) in
    let most : code ≤ 10 = grind (arith, nat_tests) in
    let same : 1 + (code - 1) ≡ code = omega arith in
    let back = function_back_by (code - 1) (omega arith) in
    let P : ℕ → Type 0 = λ c. code_of is_function (name_form c) ≡ Some c in
    subst P same back

pub predicate_back : (code : ℕ) → is_predicate code ≡ true → code_of is_predicate (name_form code) ≡ Some code
predicate_back code is =
    let p = split (nat_le 101 code) (nat_le code 109) is in
    let low : nat_le 101 code ≡ true = p.0 in
    let high : nat_le code 109 ≡ true = p.1 in
    let least : 101 ≤ code = grind (arith, nat_tests) in
    let most : code ≤ 109 = grind (arith, nat_tests) in
    let same : 101 + (code - 101) ≡ code = omega arith in
    let back = predicate_back_by (code - 101) (omega arith) in
    let P : ℕ → Type 0 = λ c. code_of is_predicate (name_form c) ≡ Some c in
    subst P same back

-- ---- actions and rules

args_back : (args : List Edn) → is_typed_args args ≡ true → option_and_then (args_said any) (elements_of (vector_form args)) ≡ Some args
args_back args typed =
    let few : length args ≤ 8 = grind (arith, nat_tests) in
    ap (option_and_then (args_said any)) (elements_of_vector args) ∙ args_said_few args few

call_back : (code : ℕ) (args : List Edn) → (is_function code && is_typed_args args) ≡ true → action_of (name_form code) (vector_form args) ≡ Some (record { code = code; args = args; carries = [] })
call_back code args typed =
    let p = split (is_function code) (is_typed_args args) typed in
    rw (function_back code p.0, args_back args p.1) refl

pub rule_back : (rule : Option Rule) → is_typed_rule rule ≡ true → rule_of any (rule_form rule) ≡ Some rule
rule_back None typed = refl
rule_back (Some rule) typed =
    let p = split (is_predicate rule.code) (is_typed_args rule.args) typed in
    let few : length rule.args ≤ 8 = grind (arith, nat_tests, p.1) in
    rule_of_vector any (name_form rule.code ∷ rule.args) ∙ rw (predicate_back rule.code p.0, args_said_few rule.args few) refl

-- ---- lists

-- What each says of its form, all say of theirs.
module _ {A B : Type 0} (said : Edn → Option B) (form : A → Edn) (seen : A → B) (fits : A → Bool) (back : (a : A) → fits a ≡ true → said (form a) ≡ Some (seen a)) where
  pub all_back : (xs : List A) → list_all fits xs ≡ true → all_said said (map form xs) ≡ Some (map seen xs)
  all_back [] typed = refl
  all_back (a ∷ xs) typed =
      let p = split (fits a) (list_all fits xs) typed in
      rw (back a p.0, all_back xs p.1) refl

  pub list_back : (xs : List A) → list_all fits xs ≡ true → list_said said (vector_form (map form xs)) ≡ Some (map seen xs)
  list_back xs typed = ap (option_and_then (all_said said)) (elements_of_vector (map form xs)) ∙ all_back xs typed

pub same_list : {A : Type 0} (xs : List A) → map (λ x. x) xs ≡ xs
same_list [] = refl
same_list (x ∷ xs) = ap (λ ys. x ∷ ys) (same_list xs)

pub length_map : {X Y : Type 0} (f : X → Y) (xs : List X) → length (map f xs) ≡ length xs
length_map f [] = refl
length_map f (x ∷ xs) = ap (λ n. suc n) (length_map f xs)

-- a vector of few elements
pub within_back : (most : ℕ) (xs : List Edn) → length xs ≤ most → elements_within most (vector_form xs) ≡ Some xs
within_back most xs few =
    let test : nat_le (length xs) most ≡ true = grind (arith, nat_tests) in
    ap (option_and_then (λ ys. only_if (nat_le (length ys) most) ys)) (elements_of_vector xs) ∙ ap (λ b. only_if b xs) test

-- ---- what an action carries

carry_back : (c : Carry) → is_typed_carry c ≡ true → carry_of (carry_form c) ≡ Some c
carry_back c typed =
    let p = split (is_typed_number c.g) (is_function c.code && is_typed_args c.args) typed in
    rw (reference_back c.g p.0, call_back c.code c.args p.1) refl

carries_back : (carries : List Carry) → is_typed_carries carries ≡ true → carries_of (carries_form carries) ≡ Some carries
carries_back carries typed =
    let p = split (nat_le (length carries) 8) (list_all is_typed_carry carries) typed in
    let forms = map carry_form carries in
    let few : length carries ≤ 8 = grind (arith, nat_tests, p.0) in
    let fits : length forms ≤ 8 = omega (arith, length_map carry_form carries) in
    ap (option_and_then (all_said carry_of)) (within_back 8 forms fits)
    ∙ (all_back carry_of carry_form (λ c. c) is_typed_carry carry_back carries p.1 ∙ ap Some (same_list carries))

-- an action with what it carries
parts_back : (action : Action) → is_typed_action action ≡ true → both carrying (action_of (name_form action.code) (vector_form action.args)) (carries_of (carries_form action.carries)) ≡ Some action
parts_back action typed =
    let p = split (is_function action.code && is_typed_args action.args) (is_typed_carries action.carries) typed in
    rw (call_back action.code action.args p.0, carries_back action.carries p.1) refl

pub action_back : (action : Action) → is_typed_action action ≡ true → action_said Three (action_forms action) ≡ Some action
action_back action typed = parts_back action typed

-- ---- entries

op_back : (r : ℕ) (answer : Edn) (op : Op) → is_typed_number r ≡ true → is_typed_op op ≡ true → done_of (op_form r answer op) ≡ Some (record { r = r; op = op; answer = answer })
op_back r answer (ops.Set v) number typed = rw (clamp_back r number) refl
op_back r answer (ops.Alter code args) number typed = rw (reference_back r number, call_back code args typed) refl
op_back r answer (ops.Commute code args) number typed = rw (reference_back r number, call_back code args typed) refl
op_back r answer ops.Ensure number typed = rw (clamp_back r number) refl

pub done_back : (d : Done) → is_typed_done d ≡ true → done_of (done_form d) ≡ Some d
done_back d typed = let p = split (is_typed_number d.r) (is_typed_op d.op) typed in op_back d.r d.answer d.op p.0 p.1

pub sent_back : (s : Sent) → is_typed_sent s ≡ true → sent_of Three (sent_form s) ≡ Some s
sent_back s typed =
    let p = split (is_typed_number s.agent) (is_typed_action s.action) typed in
    rw (reference_back s.agent p.0, action_back s.action p.1) refl

marked : (action : Action) (mark : Mark) → is_typed_action action ≡ true → handled_of Three (handled_form (record { action = action; mark = mark })) ≡ Some (record { action = action; mark = mark })
marked action marks.Done typed = rw (parts_back action typed) refl
marked action marks.Failed typed = rw (parts_back action typed) refl
marked action marks.Passed typed = rw (parts_back action typed) refl

pub handled_back : (h : Handled) → is_typed_handled h ≡ true → handled_of Three (handled_form h) ≡ Some h
handled_back h typed = marked h.action h.mark typed

pub queued_back : (q : Queued) → is_typed_queued q ≡ true → queued_of Three (queued_form q) ≡ Some q.action
queued_back q typed = action_back q.action typed

dones_back : (ds : List Done) → list_all is_typed_done ds ≡ true → list_said done_of (vector_form (map done_form ds)) ≡ Some ds
dones_back ds typed = list_back done_of done_form (λ d. d) is_typed_done done_back ds typed ∙ ap Some (same_list ds)

sends_back : (ss : List Sent) → list_all is_typed_sent ss ≡ true → list_said (sent_of Three) (vector_form (map sent_form ss)) ≡ Some ss
sends_back ss typed = list_back (sent_of Three) sent_form (λ s. s) is_typed_sent sent_back ss typed ∙ ap Some (same_list ss)

-- an atom was set to what was answered
atom_back : (a : ℕ) (op : Op) (answer : Edn) → is_typed_number a ≡ true → is_typed_op op ≡ true → is_set op ≡ true → (is_reset op answer ≡ true) → entry_of Three (atom_form a answer op) ≡ Some (Atom a op answer)
atom_back a (ops.Set v) answer number typed sets kept =
    let same : v ≡ answer = (edn_eq v answer true (sym kept)).0 refl in
    rw (clamp_back a number) (ap (λ w. Some (Atom a (ops.Set v) w)) same)
atom_back a (ops.Alter code args) answer number typed sets kept = rw (reference_back a number, call_back code args typed) refl
atom_back a (ops.Commute code args) answer number typed sets kept = absurd cc
atom_back a ops.Ensure answer number typed sets kept = absurd cc

pub entry_back : (e : Entry) → is_typed_entry e ≡ true → entry_of Three (entry_form e) ≡ Some e
entry_back (Trans t) typed =
    let p = split (is_typed_stamp t.stamp) (list_all is_typed_done t.dones && list_all is_typed_sent t.sends) typed in
    let q = split (list_all is_typed_done t.dones) (list_all is_typed_sent t.sends) p.1 in
    let s = split (is_typed_number t.stamp.worker) (is_typed_number t.stamp.step) p.0 in
    rw (stamp_back t.stamp.worker s.0, stamp_back t.stamp.step s.1, dones_back t.dones q.0, sends_back t.sends q.1) refl
entry_back (Atom a op answer) typed =
    let p = split (is_typed_number a) (is_typed_op op && (is_set op && is_reset op answer)) typed in
    let q = split (is_typed_op op) (is_set op && is_reset op answer) p.1 in
    let s = split (is_set op) (is_reset op answer) q.1 in
    atom_back a op answer p.0 q.0 s.0 s.1
entry_back (MadeRef v) typed = refl
entry_back (MadeAtom v) typed = refl

pub entries_back : (n : ℕ) (es : List Entry) → list_all is_typed_entry es ≡ true → entries_from Three n (map entry_form es) ≡ Ok es
entries_back n [] typed = refl
entries_back n (e ∷ es) typed =
    let p = split (is_typed_entry e) (list_all is_typed_entry es) typed in
    rw (entry_back e p.0, entries_back (n + 1) es p.1) refl
