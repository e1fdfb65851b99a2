use Rattle.typing_forms.proofs.Orders.{members_named}
use Rattle.typing_forms.proofs.order.names_below.Goals as goal

pub returns-in-Struct : goal.returns-in-Struct
returns-in-Struct c =
    members_named c.args.bound c.args.inner.now c.in-Struct.members c.in-Struct.span c.as_slice.result.now c.members_below.result
    c.in-Struct.is c.as_slice.ensures.value c.members_below.ensures
