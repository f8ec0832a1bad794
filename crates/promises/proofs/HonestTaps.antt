-- TAP in and out over a server that returns what was last written. Assumes nothing.
use native.Mathlib.Omega.{arith}
use Rattle.returning.proofs.Returns.{returning}
use Rattle.promises.specs.Taps.{HonestTaps}
use Rattle.promises.proofs.ReadyRuns.{worn-or-full, worn-alone}
use Rattle.promises.proofs.AnyTaps.{good-answer}
use Rattle.promises.proofs.TapsRead.{read, part_read, whole-read}
use Rattle.promises.proofs.TapsWritten.{written, write_leaves, says-table}
use Rattle.promises.proofs.TapsAnswer.{read-ends, write-ends}
use Rattle.promises.proofs.TapsExist.{first_text, first_written}

pub honest_taps : HonestTaps
honest_taps =
    record {
      reads = whole-read;
      part_read = part_read;
      read_not_forged = λ b byte ts reached chapter year first end draws text. (read b byte ts reached chapter year first end draws text).not_forged;
      read_answers =
          λ b byte ts reached chapter year first end draws text o. (
            (λ q h. worn-or-full b q (read-ends b byte ts reached chapter year first end draws text o q h)),
            good-answer ts.state.desk ts.tree chapter year first end draws text o.good,
          );
      read_roomy = λ b byte room ts reached chapter year first end draws text o q h. worn-alone b q room (read-ends b byte ts reached chapter year first end draws text o q h);
      writes = says-table;
      write_leaves = write_leaves;
      write_not_forged = λ b byte ts reached chapter first end draws out. (written b byte ts reached chapter first end draws out).not_forged;
      write_answers = λ b byte ts reached chapter first end draws out o q h. worn-or-full b q (write-ends b byte ts reached chapter first end draws out o q h);
      write_roomy = λ b byte room ts reached chapter first end draws out o q h. worn-alone b q room (write-ends b byte ts reached chapter first end draws out o q h);
      first_text =
          λ b lent p room tree size chapter year id draw low high all text good.
          first_text b lent p room tree size id draw low high (all 0 (omega arith)) chapter year text good;
      good_texts = returning.good;
      first_written =
          λ b lent p room tree size chapter id draw low high all out long.
          first_written b lent p room tree size id draw low high (all 0 (omega arith)) chapter out long;
    }
