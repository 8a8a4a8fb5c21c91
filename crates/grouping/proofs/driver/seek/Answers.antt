-- `seek`: what `next_token` stops at (GatherLaws), for each of these passes (SeekLaws).
use Rattle.passes.proofs.GatherLaws.{can-seek, turned-over, turned-enter, token-found, turned-token}
use Rattle.passes.proofs.SeekLaws.{left-stands, standing, sought-of}
use Rattle.grouping.proofs.driver.seek.Goals as goal

pub next_token-requires : goal.next_token-requires
next_token-requires c =
    can-seek (standing _ c.args.list c.args.pass c.requires.1 c.requires.0)

pub token-requires : goal.token-requires
token-requires c =
    let sought =
    sought-of c.args.pass c.classes.ensures
    c.next_token.ensures in (
      token-found (standing _ c.args.list c.args.pass c.requires.1) c.requires.0 sought c.in-Token.is,
      c.requires.1,
    )

pub returns-in-Nothing : goal.returns-in-Nothing
returns-in-Nothing c =
    let sought =
    sought-of c.args.pass c.classes.ensures
    c.next_token.ensures in
    turned-over (standing _ c.args.list c.args.pass c.requires.1) sought c.in-Nothing.is c.over.ensures

pub returns-in-Children : goal.returns-in-Children
returns-in-Children c =
    let sought =
    sought-of c.args.pass c.classes.ensures
    c.next_token.ensures in
    turned-enter (standing _ c.args.list c.args.pass c.requires.1) sought c.in-Children.is c.enter.ensures

pub returns-in-Token : goal.returns-in-Token
returns-in-Token c =
    let sought =
    sought-of c.args.pass c.classes.ensures
    c.next_token.ensures in
    turned-token (left-stands _ c.args.list c.args.pass c.requires.1 c.token.ensures.turned) sought
    c.in-Token.is
