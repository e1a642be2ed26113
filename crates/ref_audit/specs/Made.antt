-- What the parts of a dump and of a report are made by: bookkeeping.
use Rattle.std.specs.Prelude.{◌≡◌, ◌≢◌, ℕ, ◌<◌, ◌≤◌, List, codes, length, map}
use Rattle.ref_verdict.specs.Words.{added_key, agents_key, atoms_key, base_atoms_key, base_refs_key, commits_key, dump_key, entries_key, folded_key, point_key, refs_key, taken_key, tally_key, tx_tag, reset_tag, swap_tag, made_ref_tag, made_atom_tag, set_tag, alter_tag, commute_tag, ensure_tag, done_mark, failed_mark, passed_mark, ready_status, vector_form}
use Rattle.ref_world.specs.Seen.{WorldSeen}
use Rattle.ref_log.specs.declared.notices.Who.{Who}
use Rattle.ref_log.specs.declared.notices.Who.TheVariants as whos
use Rattle.ref_audit.specs.Dumped.{agents_form, base_refs_form, entry_form, folded_form, values_form}
use Rattle.ref_audit.specs.declared.dumping.maps.Parts.{Parts}
use Rattle.ref_audit.specs.declared.faults.DumpMakeFault.{DumpMakeFault}
use Rattle.ref_audit.specs.declared.faults.DumpMakeFault.TheVariants.{TooDeep, Unnamed}
use Rattle.ref_audit.specs.declared.kinds.RefOrAtom.{RefOrAtom}
use Rattle.ref_audit.specs.declared.kinds.RefOrAtom.TheVariants as kinds
use Rattle.ref_audit.specs.declared.words.Word.{Word}
use Rattle.ref_audit.specs.declared.words.Word.TheVariants as words
use Rattle.ref_log.specs.Limits.{most_references}
use Rattle.ref_value.specs.Limits.{most_nested}

-- The fault of a form that isn't made: that it nests too deep, which is so then, or out of memory.
pub record IsMakeFault (depth : ℕ) (fault : DumpMakeFault) : Type 0 where
  pub deep : fault ≡ TooDeep → most_nested < depth
  pub named : (code : ℕ) → fault ≢ Unnamed code

-- A world has at most 2^20 references of a kind.
pub record AreFew (world : WorldSeen) : Type 0 where
  pub refs : length world.refs.values ≤ most_references
  pub atoms : length world.atoms.values ≤ most_references
  pub agents : length world.agents.agents ≤ most_references

-- Values of a world's dump that are collections.
pub record AreParts (world : WorldSeen) (parts : Parts) : Type 0 where
  pub agents : parts.agents ≡ agents_form world.agents.guards world.agents.agents
  pub atoms : parts.atoms ≡ values_form world.atoms.guards world.atoms.values
  pub base_atoms : parts.base_atoms ≡ vector_form world.base.atoms
  pub base_refs : parts.base_refs ≡ base_refs_form world.base
  pub entries : parts.entries ≡ vector_form (map entry_form world.log)
  pub folded : parts.folded ≡ folded_form world.base
  pub refs : parts.refs ≡ values_form world.refs.guards world.refs.values

abbrev pub kind_text : RefOrAtom → List ℕ
kind_text kinds.Ref = codes "ref"
kind_text kinds.Atom = codes "atom"

-- the reference of this kind and number
abbrev pub who_of : RefOrAtom → ℕ → Who
who_of kinds.Ref n = whos.Ref n
who_of kinds.Atom n = whos.Atom n

abbrev pub word_text : Word → List ℕ
word_text words.Added = added_key
word_text words.Agents = agents_key
word_text words.Alter = alter_tag
word_text words.Atoms = atoms_key
word_text words.BaseAtoms = base_atoms_key
word_text words.BaseRefs = base_refs_key
word_text words.Commits = commits_key
word_text words.Commute = commute_tag
word_text words.Done = done_mark
word_text words.Dump = dump_key
word_text words.Ensure = ensure_tag
word_text words.Entries = entries_key
word_text words.Failed = failed_mark
word_text words.Folded = folded_key
word_text words.MadeAtom = made_atom_tag
word_text words.MadeRef = made_ref_tag
word_text words.Passed = passed_mark
word_text words.Point = point_key
word_text words.Ready = ready_status
word_text words.Refs = refs_key
word_text words.Reset = reset_tag
word_text words.Set = set_tag
word_text words.Swap = swap_tag
word_text words.Taken = taken_key
word_text words.Tally = tally_key
word_text words.Tx = tx_tag
