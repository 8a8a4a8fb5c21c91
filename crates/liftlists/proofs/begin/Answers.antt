-- `liftlists::begin` lifts the file behind a version word, or hands over the refusal.
use Rattle.std.proofs.Common.{arith, ap, ◌∙◌, [], get_or}
use Rattle.liftlists.specs.LiftedFile.{lifted_file, refused_line}
use Rattle.liftlists.proofs.GoingLaws.{four-first, starts, refused-short, refused-first}
use Rattle.liftlists.proofs.begin.Goals as goal

pub hand_last-requires : goal.hand_last-requires
unfolding refused_line
hand_last-requires g c =
    let first = c.args.first.now in record { input = first; before = []; is = refused-short first c.if-first-lt4.true }

pub lift_file-requires : goal.lift_file-requires
lift_file-requires g c =
    let first = c.args.first.now in
    let word = c.word_of-to.ensures in
    let four = four-first first (omega (arith, c.requires, c.if-first-lt4.false)) in (
      c.if-to-lt-PAST_VERSIONS.true,
      record {
        came = first;
        goes =
            rw (four, word)
            (starts (get_or first 0 0) (get_or first 1 0) (get_or first 2 0) (get_or first 3 0)
            (omega (arith, word, c.if-to-lt-PAST_VERSIONS.true)));
      },
    )

pub hand_last-requires-2 : goal.hand_last-requires-2
unfolding refused_line
hand_last-requires-2 g c =
    let first = c.args.first.now in
    let four = four-first first (omega (arith, c.requires, c.if-first-lt4.false)) in
    record {
      input = first;
      before = [];
      is =
          ap lifted_file four
          ∙ refused-first (get_or first 0 0) (get_or first 1 0) (get_or first 2 0) (get_or first 3 0) _ c.word_of-to.ensures
          c.if-to-lt-PAST_VERSIONS.false [];
    }
