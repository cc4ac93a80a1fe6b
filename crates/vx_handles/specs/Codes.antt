-- The code of open handles, for the model whose value they are.
use Rattle.std.specs.Prelude.{◌≡◌, ℕ, zero, suc, refl}
use Rattle.std.specs.Coded.{Coded, code_by, coded×, coded_ℕ}
use Rattle.std.specs.FinMap as map
use Rattle.vx_base.specs.declared.call.Flag.{Flag}
use Rattle.vx_base.specs.declared.call.Flag.TheVariants as flag
use Rattle.vx_handles.specs.OpenHandles.{OpenHandles}

abbrev flag_number : Flag → ℕ
flag_number flag.Plain = 0
flag_number flag.Sync = 1
flag_number flag.DSync = 2
flag_number flag.Direct = 3
flag_number flag.Unbuffered = 4

abbrev flag_from : ℕ → Flag
flag_from zero = flag.Plain
flag_from (suc zero) = flag.Sync
flag_from (suc (suc zero)) = flag.DSync
flag_from (suc (suc (suc zero))) = flag.Direct
flag_from (suc (suc (suc (suc n)))) = flag.Unbuffered

pub flag_again : (f : Flag) → flag_from (flag_number f) ≡ f
flag_again flag.Plain = refl
flag_again flag.Sync = refl
flag_again flag.DSync = refl
flag_again flag.Direct = refl
flag_again flag.Unbuffered = refl

abbrev coded_flag : Coded Flag
coded_flag = code_by ℕ coded_ℕ flag_number flag_from flag_again

abbrev pub coded_handles : Coded OpenHandles
coded_handles = map.code (coded× coded_ℕ coded_ℕ) (coded× coded_ℕ coded_flag)
