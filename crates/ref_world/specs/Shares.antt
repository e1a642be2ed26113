-- What a call does to a share.
use Rattle.std.specs.Prelude.{◌≡◌, ℕ, nat_lt, ◌+◌, List, [], ◌∷◌, ◌++◌, filter}
use Rattle.ref_world.specs.declared.names.Blanks.{Blanks}
use Rattle.ref_world.specs.History.{longer}
use Rattle.ref_world.specs.Seen.{HistorySeen, ShareSeen}
pub use Rattle.ref_world.specs.Parts.{all_parts}

-- These are the blanks of the books and of the history that have these names.
abbrev pub AreBlanks : Blanks → ℕ → ℕ → ℕ → ℕ → Type 0
AreBlanks blanks commits added taken story =
    (blanks.commits.name ≡ commits) × (blanks.added.name ≡ added) × (blanks.taken.name ≡ taken) × (blanks.story.name ≡ story)

-- a whole share with which nothing was done, of a world whose history is known so far
abbrev pub whole : HistorySeen → ShareSeen
whole history = record { parts = all_parts; commits = 0; added = 0; taken = 0; receipts = []; history = history }

-- where the history is known so far
abbrev pub knowing : ShareSeen → HistorySeen → ShareSeen
knowing share history = record share { history = history }

-- with the receipt of the entry at this point
abbrev pub with_receipt : ShareSeen → ℕ → ShareSeen
with_receipt share point = record share { receipts = share.receipts ++ point ∷ [] }

-- with a commit at this point more, its receipt, and what it added to the tally and took from it
abbrev pub with_commit : ShareSeen → ℕ → ℕ → ℕ → ShareSeen
with_commit share point added taken = record share {
  commits = share.commits + 1;
  added = share.added + added;
  taken = share.taken + taken;
  receipts = share.receipts ++ point ∷ [];
}

-- with what another share has; the history is known as far as one of them knew it
abbrev pub joined : ShareSeen → ShareSeen → ShareSeen
joined share other = record {
  parts = share.parts + other.parts;
  commits = share.commits + other.commits;
  added = share.added + other.added;
  taken = share.taken + other.taken;
  receipts = share.receipts ++ other.receipts;
  history = longer share.history other.history;
}

-- the receipts of the entries after this point
abbrev pub after_point : ℕ → List ℕ → List ℕ
after_point point receipts = filter (λ p. nat_lt point p) receipts

-- without the receipts of the entries up to this point
abbrev pub forgotten : ShareSeen → ℕ → ShareSeen
forgotten share point = record share { receipts = after_point point share.receipts }
