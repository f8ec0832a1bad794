-- The lines of a text that was put together of lines, each with its line feed. Assumes nothing.
use Prim.Native.Nat.{ℕ, ◌+◌}
use mathlib.Core.Path.{◌≡◌, ap, ◌∙◌}
use mathlib.Core.List.{List, [], ◌∷◌, ◌++◌, append-nil}
use native.Mathlib.Omega.{arith}
use lib.ListN.{length, drop, length-append, drop_of_length-le}
use Rattle.text.specs.Text.{line_feed}
use Rattle.text.specs.Fronts.{before}
use Rattle.window.specs.Pieces.{line_len, lines_of}
use Rattle.window.proofs.Pieces.{line-handed}
use Rattle.printing.specs.Printed.{feed}
use Rattle.returning.proofs.Free.{Free, before-free}

-- a line, and the lines of what follows it
pub row-then : (text xs ys : List ℕ) → text ≡ xs ++ feed → Free line_feed xs → lines_of (text ++ ys) ≡ xs ∷ lines_of ys
unfolding before
row-then text xs ys e h =
    let b : before line_feed text ≡ xs = ap (before line_feed) e ∙ before-free line_feed xs feed h ∙ append-nil xs in
    let l : length text ≡ length xs + 1 = ap length e ∙ length-append xs feed in
    let m : line_len text ≡ length xs = ap length b in
    let d : drop (line_len text + 1) text ≡ [] = drop_of_length-le text {i = line_len text + 1} (omega arith) in
    line-handed text ys (omega arith) ∙ rw (d, b)
