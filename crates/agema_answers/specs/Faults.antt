-- Which answer tells a fault of binding.
use Rattle.bound_items.specs.declared.fault.BindFault.{BindFault}
use Rattle.bound_items.specs.declared.fault.BindFault.TheVariants as fault
use Rattle.agema_answers.specs.declared.ended.Ended.{Ended}
use Rattle.agema_answers.specs.declared.ended.Ended.TheVariants.{Memory, Refused}
use Rattle.agema_answers.specs.declared.refusal.Refusal.TheVariants as refusal

abbrev pub bind_ended : BindFault → Ended
bind_ended (fault.UnknownCell i c) = Refused (refusal.UnknownCell i c)
bind_ended (fault.UnknownPin i p) = Refused (refusal.UnknownPin i p)
bind_ended (fault.UnknownWire n) = Refused (refusal.UnknownWire n)
bind_ended (fault.Driven w d) = Refused (refusal.Driven w d)
bind_ended (fault.Width l r) = Refused (refusal.Width l r)
bind_ended (fault.Top n) = Refused (refusal.Top n)
bind_ended (fault.Recursive m) = Refused (refusal.Recursive m)
bind_ended (fault.BarredCell i c b) = Refused (refusal.BarredCell i c b)
bind_ended (fault.Clash n) = Refused (refusal.Clash n)
bind_ended fault.Memory = Memory
