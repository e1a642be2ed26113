-- What the workers of a run have done, one after the other.
use Rattle.std.proofs.Common.{zero, suc, true, is_ok, Result, Ok, Err, OnOk, ◌≡◌, ◌<◌, ◌+◌, ◌*◌, ℕ, List, [], ◌∷◌, ◌++◌, length, subst, sym, ap, ◌∙◌, add-one, arith}
use Rattle.std.proofs.Math.Nat.{suc-mul, zero-mul}
use Rattle.ref_program.specs.Done.{AreLeft, AreNumbers, AreTogether, HaveDone, HaveRun, IsEach}
use Rattle.ref_program.specs.Seen.{HasDoneNothing}
use Rattle.ref_fun.specs.Meaning.{Means}
use Rattle.ref_log.specs.declared.entries.Entry.{Entry}
use Rattle.ref_log.specs.declared.states.Base.{Base}
use Rattle.ref_shared.specs.Commits.{HasEnded}
use Rattle.ref_shared.specs.Gather.{InOrder, ReceiptsMatch}
use Rattle.ref_world.specs.History.{Begins}
use Rattle.ref_world.specs.Seen.{ShareSeen}
use Rattle.ref_world.specs.Shares.{joined}
use Rattle.ref_world.specs.declared.worlds.Totals.{Totals}

pub when_ok : {T E P : Type 0} (r : Result T E) → OnOk r P → is_ok r ≡ true → P
when_ok (Ok x) p ok = p
when_ok (Err e) p ok = absurd cc

pub numbers_more : (first n : ℕ) (numbers : List ℕ) → n ≡ first + length numbers → AreNumbers first numbers → AreNumbers first (numbers ++ n ∷ [])
numbers_more first n [] e _ = (omega (arith, e), tt)
numbers_more first n (m ∷ numbers) e rest = (rest.0, numbers_more (first + 1) n numbers (omega (arith, e)) rest.1)

pub left_more : (did : ℕ → ShareSeen → Type 0) (first n : ℕ) (shares : List ShareSeen) (s : ShareSeen)
    → n ≡ first + length shares → AreLeft did first shares → did n s × (s.parts ≡ 1) → AreLeft did first (shares ++ s ∷ [])
left_more did first n [] s e _ h = let here : n ≡ first = omega (arith, e) in (subst (λ i. did i s × (s.parts ≡ 1)) here h, tt)
left_more did first n (t ∷ shares) s e rest h = (rest.0, left_more did (first + 1) n shares s (omega (arith, e)) rest.1 h)

pub joined_parts : (old new s : ShareSeen) → new ≡ joined old s → new.parts ≡ old.parts + s.parts
joined_parts old new s both = ap (λ t. t.parts) both

-- A worker more has done its work, and its share was joined.
pub have_joined : (did : ℕ → ShareSeen → Type 0) (n : ℕ) (old new s : ShareSeen)
    → new ≡ joined old s → Begins old.history new.history × Begins s.history new.history → HaveDone did n old → did n s → HaveDone did (n + 1) new
have_joined did n old new s both known h one =
    subst (λ m. HaveDone did m new) (sym (add-one n)) (
      s,
      old,
      h,
      one,
      record { commits = ap (λ t. t.commits) both; added = ap (λ t. t.added) both; taken = ap (λ t. t.taken) both; receipts = ap (λ t. t.receipts) both; known = known },
    )

-- The totals and the log of a world that was taken out, where all workers have done what this share has.
pub as_run : (means : Means) (did : ℕ → ShareSeen → Type 0) (n : ℕ) (share : ShareSeen) (totals : Totals) (base : Base) (log : List Entry) → HaveDone did n share
    → ((totals.commits ≡ share.commits) × (totals.added ≡ share.added) × (totals.taken ≡ share.taken))
    × ReceiptsMatch base.point log share.receipts × InOrder base.point log × HasEnded means share.history base log
    → HaveRun means did n totals base log
as_run means did n share totals base log done fits = record { all = share; done = done; sums = fits.0; receipts = fits.1; order = fits.2; ended = fits.3 }

-- ---- where each has done as much

more_times : (n k before mine all : ℕ) → all ≡ before + mine → before ≡ n * k → mine ≡ k → all ≡ suc n * k
more_times n k before mine all sum one other = omega (arith, sum, one, other, suc-mul n k)

-- A part of a share that is 0 where nothing was done, and adds up.
pub record AddsUp (part : ShareSeen → ℕ) : Type 0 where
  pub none : (all : ShareSeen) → HasDoneNothing all → part all ≡ 0
  pub sum : (one other all : ShareSeen) → AreTogether one other all → part all ≡ part one + part other

pub commits_add_up : AddsUp (λ s. s.commits)
commits_add_up = record { none = λ all h. h.0; sum = λ one other all h. h.commits }

pub added_adds_up : AddsUp (λ s. s.added)
added_adds_up = record { none = λ all h. h.1; sum = λ one other all h. h.added }

pub taken_adds_up : AddsUp (λ s. s.taken)
taken_adds_up = record { none = λ all h. h.2; sum = λ one other all h. h.taken }

fewer : (did : ℕ → ShareSeen → Type 0) (n k : ℕ) (part : ShareSeen → ℕ)
    → ((i : ℕ) (s : ShareSeen) → i < suc n → did i s → part s ≡ k) → (i : ℕ) (s : ShareSeen) → i < n → did i s → part s ≡ k
fewer did n k part same i s below done = same i s (omega (arith, below)) done

each_of : (did : ℕ → ShareSeen → Type 0) (workers : ℕ) (all : ShareSeen) (part : ShareSeen → ℕ) → AddsUp part → HaveDone did workers all
    → IsEach did workers part (part all)
each_of did zero all part adds h k same = adds.none all h ∙ sym (zero-mul k)
each_of did (suc n) all part adds h k same =
    more_times n k (part h.1) (part h.0) (part all) (adds.sum h.1 h.0 all h.4) (each_of did n h.1 part adds h.2 k (fewer did n k part same)) (same n h.0 (omega arith) h.3)

pub each_total : (did : ℕ → ShareSeen → Type 0) (workers total : ℕ) (all : ShareSeen) (part : ShareSeen → ℕ) → AddsUp part → HaveDone did workers all
    → total ≡ part all → IsEach did workers part total
each_total did workers total all part adds h is k same = is ∙ each_of did workers all part adds h k same
