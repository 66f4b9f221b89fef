use Rattle.std.proofs.Common.{◌≡◌, ◌++◌, take}
use Rattle.spv_printer.proofs.encoder.put_words.Given as goal

abbrev pub invariant-loop-word : goal.invariant-loop-word
invariant-loop-word l = l.draft ≡ l.initial.draft ++ take l.word-index l.words
