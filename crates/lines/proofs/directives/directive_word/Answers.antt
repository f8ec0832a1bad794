-- `lines::directives::directive_word` meets its contract: both words are in capitals. Assumes nothing.
use mathlib.Core.Path.{refl}
use Rattle.lines.specs.Words.{capitals}
use Rattle.lines.proofs.directives.directive_word.Goals as goal

pub is_word-requires : goal.is_word-requires
unfolding capitals
is_word-requires c = refl

pub is_word-requires-2 : goal.is_word-requires-2
unfolding capitals
is_word-requires-2 c = refl
