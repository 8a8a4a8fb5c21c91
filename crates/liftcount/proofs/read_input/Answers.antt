-- `liftcount::read_input` meets its contract: the run is where the bytes lead to that were taken from the reader. Assumes nothing.
use mathlib.Core.{List.{[], ◌++◌}}
use native.Mathlib.Omega.{arith}
use lib.ListN.{take}
use Rattle.std.proofs.KnownBytes.{Consumes-nil, Consumes-trans}
use Rattle.liftcount.specs.Running.{fed}
use Rattle.liftcount.proofs.{InputLaws.{longer, on}}
use Rattle.liftcount.proofs.read_input.Goals as goal

pub loop-init : goal.loop-init
unfolding fed
loop-init g c = (
  c.requires,
  record {
    so_far = record { came = []; few = omega arith; is = c.start-run.ensures c.args.list.now };
    taken = Consumes-nil _;
  },
)

pub returns-then-last-space-clause-reached : goal.returns-then-last-space-clause-reached
returns-then-last-space-clause-reached g c =
    let so_far = c.loop.invariant.1.so_far in
    let within = c.in-Ok.ensures.prefix_len.0 in
    record {
      before = so_far.came;
      few = omega (arith, longer so_far.came _ c.in-Ok.last within (omega (arith, c.loop.invariant.0)), so_far.few);
      is = on _ _ _ _ so_far (take c.in-Ok.last _) c.feed-run.ensures;
    }

pub returns-then-last-space-clause-taken : goal.returns-then-last-space-clause-taken
returns-then-last-space-clause-taken g c =
    let so_far = c.loop.invariant.1.so_far in
    record {
      before = so_far.came;
      all = Consumes-trans _ _ _ _ _ c.loop.invariant.1.taken c.in-Ok.ensures.taken;
      is = on _ _ _ _ so_far (take c.in-Ok.last _) c.feed-run.ensures;
    }

pub loop-preserved : goal.loop-preserved
loop-preserved g c =
    let so_far = c.loop.invariant.1.so_far in
    let within = c.in-Ok.ensures.prefix_len.0 in (
      omega (arith, c.loop.invariant.0),
      record {
        so_far =
            record {
              came = so_far.came ++ take c.in-Ok.last _;
              few = omega (arith, longer so_far.came _ c.in-Ok.last within (omega (arith, c.loop.invariant.0)), so_far.few);
              is = on _ _ _ _ so_far (take c.in-Ok.last _) c.feed-run.ensures;
            };
        taken = Consumes-trans _ _ _ _ _ c.loop.invariant.1.taken c.in-Ok.ensures.taken;
      },
    )
