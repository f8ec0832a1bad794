-- The plain table: what was last written under each id, what a plain table answers, and the blocks that stand for it. Assumes nothing.
use Rattle.std.specs.Prelude.{ℕ, zero, suc, ◌+◌, Bool, true, false, cond, List, [], ◌∷◌, ◌++◌, eqb}
use Rattle.std.proofs.Math.Option.{Option, none, some}
use Rattle.slots.specs.Slots.{Block}
use Rattle.desk.specs.declared.Kind.{Kind}
use Rattle.desk.specs.declared.Kind.TheVariants.{Read, Write}
use Rattle.desk.specs.Readers.{position_of}
use Rattle.store.specs.declared.Finished.{Finished}
use Rattle.store.specs.declared.Finished.TheVariants as finished

abbrev pub Table : Type 0
Table = ℕ → Option (List ℕ)

-- what it answers, by the kind and what it holds, and what the buffer then holds
abbrev pub plain_answer : Kind → Option (List ℕ) → Finished
plain_answer Read none = finished.Never
plain_answer Read (some r) = finished.Record
plain_answer Write held = finished.Done

abbrev pub plain_buffer : Kind → Option (List ℕ) → List ℕ → List ℕ
plain_buffer Read none buffer = buffer
plain_buffer Read (some r) buffer = r
plain_buffer Write held buffer = buffer

-- what it holds after a request with this record, under that id and under the others
abbrev pub plain_held : Kind → Option (List ℕ) → List ℕ → Option (List ℕ)
plain_held Read held content = held
plain_held Write held content = some content

abbrev pub plain_table : Kind → ℕ → List ℕ → Table → Table
plain_table kind id content table = λ u. cond (eqb u id) (plain_held kind (table u) content) (table u)

-- whether something is held; how many of the ids 1 to n were ever written
abbrev pub is_held : Option (List ℕ) → Bool
is_held none = false
is_held (some r) = true

abbrev pub is_some : Option (List ℕ) → ℕ
is_some none = 0
is_some (some r) = 1

abbrev pub ever_written : Table → ℕ → ℕ
ever_written table zero = 0
ever_written table (suc n) = ever_written table n + is_some (table (suc n))

-- the block that stands for what is held under an id, at its position; those of the ids 1 to n
abbrev pub block_of : List ℕ → ℕ → List ℕ → Block
block_of desk u r = record { id = u; leaf = position_of desk u; bytes = r }

abbrev pub place_of : List ℕ → ℕ → Option (List ℕ) → List Block
place_of desk u none = []
place_of desk u (some r) = block_of desk u r ∷ []

abbrev pub table_blocks : List ℕ → Table → ℕ → List Block
table_blocks desk table zero = []
table_blocks desk table (suc n) = table_blocks desk table n ++ place_of desk (suc n) (table (suc n))
