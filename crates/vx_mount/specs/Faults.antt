-- How a turn tells the failed writes of the device.
use Rattle.std.specs.Prelude.{◌≡◌, ℕ, Bool, true, false, Option, None, Some}
use Rattle.vx_base.specs.declared.event.Event.{Event}
use Rattle.vx_base.specs.declared.event.Event.TheVariants as event
use Rattle.vx_base.specs.declared.refusal.Refusal.{Refusal}
use Rattle.vx_base.specs.declared.refusal.Refusal.TheVariants as no
use Rattle.vx_base.specs.declared.reply.Reply.{Reply}
use Rattle.vx_base.specs.declared.reply.Reply.TheVariants as say
use Rattle.vx_base.specs.Faults.{Rose}

-- a refusal that a fault of the device has caused, in this call or an earlier one
abbrev pub is_of_device : Refusal → Bool
is_of_device no.ReadFault = true
is_of_device no.WriteFault = true
is_of_device (no.Disabled faults) = true
is_of_device _ = false

abbrev pub IsFaultless : Reply → Type 0
IsFaultless (say.Refused why) = is_of_device why ≡ false
IsFaultless _ = Unit {0}

-- How a turn tells the device's faults: where no write has failed in this mount, the answer tells none; where one fails in this very
-- turn it is WriteFault; and where one had failed before it is Disabled, with the count of then.
abbrev pub TellsFault : (before now : Option ℕ) → (write_faults : ℕ) → Reply → Type 0
TellsFault None None write_faults answer = IsFaultless answer
TellsFault None (Some faults) write_faults answer = (faults ≡ write_faults) × (answer ≡ say.Refused no.WriteFault)
TellsFault (Some faults) now write_faults answer = (now ≡ Some faults) × (answer ≡ say.Refused (no.Disabled faults))

-- a Do's reply or a Ret's answer tells them so
abbrev pub EventTellsFault : (before now : Option ℕ) → (write_faults : ℕ) → Event → Type 0
EventTellsFault before now write_faults (event.Do at session line call reply) = TellsFault before now write_faults reply
EventTellsFault before now write_faults (event.Ret at place answer) = TellsFault before now write_faults answer
EventTellsFault before now write_faults _ = Unit {0}

-- How failed writes disable a mount: where none fails their number stays, the first one disables the mount by it, and a disabled mount
-- does no operation.
abbrev pub HasFailed : (before now : Option ℕ) → (count later_count write_faults later_write_faults : ℕ) → Type 0
HasFailed None None count later_count write_faults later_write_faults = later_write_faults ≡ write_faults
HasFailed None (Some faults) count later_count write_faults later_write_faults = Rose write_faults later_write_faults × (faults ≡ later_write_faults)
HasFailed (Some faults) now count later_count write_faults later_write_faults = (now ≡ Some faults) × ((later_count ≡ count) × (later_write_faults ≡ write_faults))
