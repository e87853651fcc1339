-- The loop's invariant: so many records are put, and the word is what they leave. Assumes nothing.
use Rattle.std.proofs.Common.{◌≡◌, ◌*◌}
use Rattle.print_page.specs.Put.{Put}
use Rattle.generator_record.specs.MadeUp.{longest, made_log, log_leaves}
use Rattle.generator.proofs.put_records.Given as goal

abbrev pub invariant-loop : goal.invariant-loop
invariant-loop l =
    Put (longest * l.counter) l.initial.buffer 0 (made_log l.counter l.word) l.buffer l.so_far.used ×
    (l.so_far.word ≡ log_leaves l.counter l.word)
