-- What a read answers is what a shelf answers that does not tell its files, nor counts its fetches.
use Rattle.std.proofs.Common.{◌≡◌, ◌≤◌, ℕ, List, length, None, rules}
use Rattle.std.specs.Prelude.{Ok, Err, IfOk, IfErr}
use Rattle.cap_io.specs.declared.shelf.FetchError.TheVariants.{Failed, Absent, TooLong, OutOfMemory}
use Rattle.cap_io.specs.Files.{SeenShelf}
use Rattle.cap_io.specs.Outside.{FetchAnswer, FetchAnswers, Counts, Measures, longest}
use Rattle.cap_io.specs.Reading.{IsReadError}
use Rattle.cap_io.proofs.system.FileShelfShelf.fetch.Goals as goal

answers : (name : List ℕ) (r : FetchAnswer) → IfOk r (λ v. length v.items ≤ longest) → IfErr r (IsReadError 0 None) → FetchAnswers None name r
answers name (Ok bytes) within error = (within, tt)
answers name (Err Failed) within error = tt
answers name (Err Absent) within error = absurd error
answers name (Err (TooLong n)) within error = (error.0, tt)
answers name (Err OutOfMemory) within error = tt

counts : (before now : SeenShelf) (r : FetchAnswer) → before.fetches ≡ None → now.fetches ≡ None → Counts before now r
counts before now (Ok bytes) b n = rw b tt
counts before now (Err Failed) b n = rw b tt
counts before now (Err Absent) b n = rw b tt
counts before now (Err (TooLong m)) b n = rw b tt
counts before now (Err OutOfMemory) b n = cc

measures : (before now : SeenShelf) (r : FetchAnswer) → before.holds ≡ None → Measures before now r
measures before now (Ok bytes) h = tt
measures before now (Err Failed) h = tt
measures before now (Err Absent) h = tt
measures before now (Err (TooLong n)) h = rw h tt
measures before now (Err OutOfMemory) h = tt

pub returns-clause-answer : goal.returns-clause-answer
returns-clause-answer g c = answers c.args.name.now c.read_file-answer.result c.read_file-answer.ensures.within c.read_file-answer.ensures.error

pub returns-clause-counts : goal.returns-clause-counts
returns-clause-counts g c = search (rules, counts)

pub returns-clause-measure : goal.returns-clause-measure
returns-clause-measure g c = search (rules, measures)
