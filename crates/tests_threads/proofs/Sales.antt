-- What the calls of a try leave, what both threads leave together, and what a world comes to by it.
use Rattle.std.proofs.Common.{◌≡◌, ◌≤◌, ◌+◌, ◌-◌, ◌*◌, ℕ, zero, suc, ℤ, pos, negsuc, ◌-ℤ◌, ◌<ℤ◌, Bool, true, false, min, List, [], ◌∷◌, ◌++◌, Some, Result, Ok, Err, IfOk, slice_get, refl, ap, sym, subst, ◌∙◌, arith}
use Rattle.std.proofs.lemmas.Bool.{eq-eqb}
use Rattle.std.proofs.lemmas.Int.{ints}
use Rattle.ref_value.specs.Edn.{Edn, int}
use Rattle.ref_fun.specs.Core.{core_means}
use Rattle.ref_log.specs.Tally.{commits_of}
use Rattle.ref_log.specs.declared.entries.Entry.{Entry}
use Rattle.ref_log.specs.declared.entries.Stamp.{Stamp}
use Rattle.ref_log.specs.declared.operations.Done.{Done}
use Rattle.ref_log.specs.declared.operations.Op.{Op}
use Rattle.ref_log.specs.declared.operations.Op.TheVariants.{Alter}
use Rattle.ref_log.specs.declared.states.Base.{Base}
use Rattle.ref_atoms.specs.Atoms.{AtomsSeen}
use Rattle.ref_refs.specs.Commit.{entry_of}
use Rattle.ref_refs.specs.Seen.{RefsSeen}
use Rattle.ref_tx.specs.Inner.{and_place, given, inner_value, with_done}
use Rattle.ref_tx.specs.Laws.{value_after-here}
use Rattle.ref_tx.specs.Seen.{TxSeen}
use Rattle.ref_tx.specs.declared.faults.TxFault.{TxFault}
use Rattle.ref_world.proofs.Cut.{cut_commits, cut_state}
use Rattle.ref_world.specs.History.{Begins, with_entry}
use Rattle.ref_world.specs.HistoryLaws.{begins_itself, begins_more, begins_then}
use Rattle.ref_world.specs.Seen.{HistorySeen, ShareSeen}
use Rattle.ref_world.specs.Shares.{all_parts, joined, whole}
use Rattle.ref_world.specs.World.{IsReplayed, values_now}
use Rattle.ref_shared.specs.Bodies.{Committed}
use Rattle.ref_shared.specs.Commits.{HasEnded}
use Rattle.tests_threads.specs.Seats.{are_try, CameTo, DoesTry, HasSold, HasTried, HaveSold, IsOpen, IsSoldOut, is_number, is_try, tries_by, tries_of}
use Rattle.tests_threads.proofs.Tries.{ends, one_less, some_less, tries_by-both, tries_by-two, tries_of-most}

-- ---- a body

-- The value after one operation on ref 0, by its in-transaction value.
after_op : (began : TxSeen) (op : Op) (v w : Edn) → inner_value core_means began 0 ≡ Some v → inner_value core_means (with_done began 0 op w) 0 ≡ Some w → and_place core_means op (Some v) ≡ Some w
after_op began op v w before after =
    ap (and_place core_means op) (sym before) ∙ (sym (value_after-here core_means began.began began.dones (record { r = 0; op = op; answer = w }) 0 refl) ∙ after)

given-is : (r : Result Edn _) (w : Edn) → given r ≡ Some w → r ≡ Ok w
given-is (Ok v) w is = ap Ok cc
given-is (Err c) w is = absurd cc

-- Where a seat is free, one less is no less than 0.
less_is_number : (n : ℤ) → pos 0 <ℤ n → is_number (int (n -ℤ pos 1)) ≡ true
less_is_number (pos zero) some = absurd (omega (arith, ints, some))
less_is_number (pos (suc n)) some = ap (λ k. is_number (int k)) (some_less n)
less_is_number (negsuc n) some = absurd (omega (arith, ints, some))

only_done : (sold : Bool) (began : TxSeen) (d : Done) → began.dones ≡ [] → is_try sold d ≡ true → are_try sold (began.dones ++ d ∷ []) ≡ true
only_done sold began d none is = ap (λ ds. are_try sold (ds ++ d ∷ [])) none ∙ is

pub takes : (began left : TxSeen) (args : List Edn) (n : ℤ) (v w : Edn) → inner_value core_means began 0 ≡ Some v → v ≡ int n → pos 0 <ℤ n → args ≡ int (pos 1) ∷ []
    → left ≡ with_done began 0 (Alter 2 args) w → inner_value core_means left 0 ≡ Some w → DoesTry began (Ok true) left
takes began left args n v w before is some one does after = λ none.
    let same : left ≡ with_done began 0 (Alter 2 (int (pos 1) ∷ [])) w = does ∙ ap (λ l. with_done began 0 (Alter 2 l) w) one in
    let here : inner_value core_means began 0 ≡ Some (int n) = before ∙ ap Some is in
    let inner : inner_value core_means (with_done began 0 (Alter 2 (int (pos 1) ∷ [])) w) 0 ≡ Some w = ap (λ (tx : TxSeen). inner_value core_means tx 0) (sym same) ∙ after in
    let placed = given-is (core_means 2 (int (pos 1) ∷ []) (int n)) w (after_op began (Alter 2 (int (pos 1) ∷ [])) (int n) w here inner) in
    let answer : w ≡ int (n -ℤ pos 1) = one_less n w placed in
    let d : Done = record { r = 0; op = Alter 2 (int (pos 1) ∷ []); answer = w } in
    ap (λ (tx : TxSeen). are_try true tx.dones) same ∙ only_done true began d none (ap is_number answer ∙ less_is_number n some)

-- ---- a share

pub grown : (worker : ℕ) (sold : Bool) (one other : HistorySeen) → Begins one other → tries_by worker sold one.entries ≤ tries_by worker sold other.entries
grown worker sold one other begins =
    let all : tries_by worker sold other.entries ≡ tries_by worker sold (one.entries ++ begins.more) = ap (tries_by worker sold) begins.entries in
    let both = tries_by-both worker sold one.entries begins.more in
    omega (arith, all, both)

-- An entry that is a try of this worker is one more.
one_more : (worker : ℕ) (sold : Bool) (stamp : Stamp) (tx : TxSeen) (found : HistorySeen) → stamp.worker ≡ worker → are_try sold tx.dones ≡ true
    → tries_by worker sold (with_entry found (entry_of stamp tx)).entries ≡ tries_by worker sold found.entries + 1
one_more worker sold stamp tx found by is =
    let both = tries_by-both worker sold found.entries (entry_of stamp tx ∷ []) in
    let here : tries_by worker sold (entry_of stamp tx ∷ []) ≡ 1 = rw (eq-eqb stamp.worker worker by, is) refl in
    omega (arith, both, here)

module _ {B : Type 0} (body last : B) (tries : ℕ) (sold : Bool) (stamp : Stamp) (point : ℕ) (old new : ShareSeen)
    (is : Committed core_means (λ (b : B) began answer left (a : B). DoesTry began answer left) body last tries (Ok sold) stamp point old new) where
  left_so : are_try sold is.call.left.dones ≡ true
  left_so =
      let call = is.calls.called.2 in
      subst (λ (answer : Result Bool TxFault). IfOk answer (λ sold. are_try sold is.call.left.dones ≡ true)) is.answered (call.called.0 call.fresh.dones)

  pub tried : HasTried stamp.worker sold old new
  tried =
      let entered = is.landed.entered in
      let before = grown stamp.worker sold old.history entered.found entered.known in
      let more = one_more stamp.worker sold stamp is.call.left entered.found refl left_so in
      let all : tries_by stamp.worker sold new.history.entries ≡ tries_by stamp.worker sold (with_entry entered.found (entry_of stamp is.call.left)).entries = ap (λ (h : HistorySeen). tries_by stamp.worker sold h.entries) entered.entered in
      record {
        commits = ap (λ (s : ShareSeen). s.commits) is.landed.share;
        parts = ap (λ (s : ShareSeen). s.parts) is.landed.share;
        begins = begins_then old.history entered.found new.history entered.known (subst (Begins entered.found) (sym entered.entered) (begins_more entered.found (entry_of stamp is.call.left)));
        tries = omega (arith, before, more, all);
      }

-- ---- all tries of a thread

pub none_yet : (worker : ℕ) (share : ShareSeen) → HasSold worker 0 0 share share
none_yet worker share = record {
  commits = omega arith;
  parts = refl;
  begins = begins_itself share.history;
  sales = omega arith;
  misses = omega arith;
}

pub sold_more : (worker tries sold : ℕ) (old share new : ShareSeen) → HasSold worker tries sold old share → HasTried worker true share new → HasSold worker (tries + 1) (sold + 1) old new
sold_more worker tries sold old share new so_far next =
    let others = grown worker false share.history new.history next.begins in
    let sales = so_far.sales in
    let misses = so_far.misses in
    let more = next.tries in
    record {
      commits = omega (arith, so_far.commits, next.commits);
      parts = next.parts ∙ so_far.parts;
      begins = begins_then old.history share.history new.history so_far.begins next.begins;
      sales = omega (arith, sales, more);
      misses = omega (arith, misses, others);
    }

pub missed_more : (worker tries sold : ℕ) (old share new : ShareSeen) → HasSold worker tries sold old share → HasTried worker false share new → HasSold worker (tries + 1) sold old new
missed_more worker tries sold old share new so_far next =
    let others = grown worker true share.history new.history next.begins in
    let sales = so_far.sales in
    let misses = so_far.misses in
    let more = next.tries in
    record {
      commits = omega (arith, so_far.commits, next.commits);
      parts = next.parts ∙ so_far.parts;
      begins = begins_then old.history share.history new.history so_far.begins next.begins;
      sales = omega (arith, sales, others);
      misses = omega (arith, misses, more);
    }

-- ---- both threads

pub have_sold : (tries first second : ℕ) (share part rest one two all : ShareSeen) → share ≡ whole share.history → part ≡ record (whole share.history) { parts = 1 }
    → rest.parts + 1 ≡ share.parts → rest.commits ≡ share.commits → rest.history ≡ share.history → HasSold 0 tries first part one → HasSold 1 tries second rest two
    → all ≡ joined two one → Begins two.history all.history → Begins one.history all.history → HaveSold tries first second share.history all
have_sold tries first second share part rest one two all fresh cut left commits history first_sold second_sold is two_begins one_begins =
    let none : share.commits ≡ 0 = ap (λ (s : ShareSeen). s.commits) fresh in
    let parts : share.parts ≡ all_parts = ap (λ (s : ShareSeen). s.parts) fresh in
    let part_none : part.commits ≡ 0 = ap (λ (s : ShareSeen). s.commits) cut in
    let part_parts : part.parts ≡ 1 = ap (λ (s : ShareSeen). s.parts) cut in
    let all_commits : all.commits ≡ two.commits + one.commits = ap (λ (s : ShareSeen). s.commits) is in
    let have_parts : all.parts ≡ two.parts + one.parts = ap (λ (s : ShareSeen). s.parts) is in
    let one_sales = grown 0 true one.history all.history one_begins in
    let two_sales = grown 1 true two.history all.history two_begins in
    let one_misses = grown 0 false one.history all.history one_begins in
    let two_misses = grown 1 false two.history all.history two_begins in
    let knows : Begins share.history two.history = subst (λ (h : HistorySeen). Begins h two.history) history second_sold.begins in
    record {
      commits = omega (arith, first_sold.commits, second_sold.commits);
      parts = omega (arith, first_sold.parts, second_sold.parts);
      begins = begins_then share.history two.history all.history knows two_begins;
      sales = omega (arith, first_sold.sales, second_sold.sales);
      misses = omega (arith, first_sold.misses, second_sold.misses);
    }

-- ---- the world at its end

pub came_to : (known : HistorySeen) (commits booked : ℕ) (base : Base) (log : List Entry) (refs : RefsSeen) (atoms : AtomsSeen) → HasEnded core_means known base log → IsReplayed core_means base log refs atoms
    → booked ≡ base.commits + commits_of log → booked ≡ commits → CameTo known commits refs.values
came_to known commits booked base log refs atoms ended replayed books same = record {
  history = ended.history;
  begins = ended.begins;
  count = cut_commits core_means ended.history base log ended.cut ∙ (sym books ∙ same);
  after = values_now refs atoms;
  replayed = cut_state core_means ended.history base log ended.cut ∙ replayed;
  refs = refl;
}

-- As many commits as tries, so each is a try, and none is missing.
pub sold_out : (seats tries first second commits : ℕ) (start share : ShareSeen) (values : List Edn) → IsOpen seats start → HaveSold tries first second start.history share
    → CameTo share.history share.commits values → commits ≡ share.commits → IsSoldOut seats tries first second commits values
sold_out seats tries first second commits start share values begun sold came same =
    let history = came.history in
    let begins = begins_then start.history share.history history sold.begins came.begins in
    let entries = history.entries in
    let none : history.start.commits ≡ 0 = ap (λ (b : Base). b.commits) begins.start ∙ begun.commits in
    let free : slice_get history.start.refs 0 ≡ Some (int (pos seats)) = ap (λ (b : Base). slice_get b.refs 0) begins.start ∙ begun.free in
    let first_sales = grown 0 true share.history history came.begins in
    let second_sales = grown 1 true share.history history came.begins in
    let first_misses = grown 0 false share.history history came.begins in
    let second_misses = grown 1 false share.history history came.begins in
    let all_sales = tries_by-two true entries in
    let all_misses = tries_by-two false entries in
    let most = tries_of-most entries in
    let count = came.count in
    let total = sold.commits in
    let sales = sold.sales in
    let misses = sold.misses in
    let each : commits_of entries ≤ tries_of true entries + tries_of false entries = omega (arith, none, first_sales, second_sales, first_misses, second_misses, all_sales, all_misses, count, total, sales, misses) in
    let end = ends history.start.point seats entries (record { refs = history.start.refs; atoms = history.start.atoms }) came.after free came.replayed each in
    let tried : tries_of true entries + tries_of false entries ≡ 2 * tries = omega (arith, none, most, each, count, total) in
    let all_sold : tries_of true entries ≡ first + second = omega (arith, none, most, first_sales, second_sales, first_misses, second_misses, all_sales, all_misses, count, total, sales, misses) in
    record {
      left = ap (λ l. slice_get l 0) (sym came.refs) ∙ (end.left ∙ ap (λ k. Some (int (pos (seats - k)))) tried);
      sold = sym all_sold ∙ (end.sold ∙ ap (min seats) tried);
      count = same ∙ total;
    }

-- So it is of what a call returns that takes the world out.
pub if_sold_out : {X E : Type 0} (r : Result X E) (first_of second_of commits_of : X → ℕ) (values_of : X → List Edn) (seats tries first second : ℕ) (start share : ShareSeen)
    → IsOpen seats start → HaveSold tries first second start.history share → IfOk r (λ x. (first_of x ≡ first) × (second_of x ≡ second)) → IfOk r (λ x. commits_of x ≡ share.commits)
    → IfOk r (λ x. CameTo share.history share.commits (values_of x)) → IfOk r (λ x. IsSoldOut seats tries (first_of x) (second_of x) (commits_of x) (values_of x))
if_sold_out (Err e) first_of second_of commits_of values_of seats tries first second start share begun sold same commits values = tt
if_sold_out (Ok x) first_of second_of commits_of values_of seats tries first second start share begun sold same commits values =
    let all = sold_out seats tries first second (commits_of x) start share (values_of x) begun sold values commits in
    let both = all.sold in
    record { left = all.left; sold = omega (arith, both, same.0, same.1); count = all.count }
