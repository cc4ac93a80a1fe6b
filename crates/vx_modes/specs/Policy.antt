-- What options decide of writes, closes and calls.
use Rattle.std.specs.Prelude.{Bool, true, false, ◌&&◌, ◌||◌, not, Option, Some, None}
use Rattle.vx_base.specs.declared.call.Flag.{Flag}
use Rattle.vx_base.specs.declared.call.Flag.TheVariants as flag
use Rattle.vx_base.specs.declared.call.Call.{Call}
use Rattle.vx_base.specs.declared.call.Call.TheVariants as call
use Rattle.vx_base.specs.declared.mode.Logging.{Logging}
use Rattle.vx_base.specs.declared.mode.Logging.TheVariants as logging
use Rattle.vx_base.specs.declared.mode.MinCache.{MinCache}
use Rattle.vx_base.specs.declared.mode.MinCache.TheVariants as mincache
use Rattle.vx_base.specs.declared.mode.ConvOSync.{ConvOSync}
use Rattle.vx_base.specs.declared.mode.ConvOSync.TheVariants as convosync
use Rattle.vx_base.specs.declared.mode.WriteClass.{WriteClass}
use Rattle.vx_base.specs.declared.mode.WriteClass.TheVariants as class
use Rattle.vx_modes.specs.declared.options.Options.{Options}

-- ---- the class of a write

-- by a plain handle
abbrev pub plain_class : Option MinCache → WriteClass
plain_class None = class.Delayed
plain_class (Some mincache.CloseSync) = class.Delayed
plain_class (Some mincache.TmpCache) = class.Delayed
plain_class (Some mincache.Direct) = class.Direct
plain_class (Some mincache.DSync) = class.DSync
plain_class (Some mincache.Unbuffered) = class.Unbuffered

-- by a handle with flag sync or dsync, whose own class is the first
abbrev pub synchronous_class : WriteClass → Option ConvOSync → WriteClass
synchronous_class own None = own
synchronous_class own (Some convosync.CloseSync) = class.Delayed
synchronous_class own (Some convosync.Delay) = class.Delayed
synchronous_class own (Some convosync.Direct) = class.Direct
synchronous_class own (Some convosync.DSync) = class.DSync
synchronous_class own (Some convosync.Unbuffered) = class.Unbuffered

abbrev pub class_of : Flag → Options → WriteClass
class_of flag.Plain o = plain_class o.mincache
class_of flag.Sync o = synchronous_class class.Sync o.convosync
class_of flag.DSync o = synchronous_class class.DSync o.convosync
class_of flag.Direct o = class.Direct
class_of flag.Unbuffered o = class.Unbuffered

-- ---- closes

-- a close of any handle flushes
abbrev pub flushes_every_close : Option MinCache → Bool
flushes_every_close None = false
flushes_every_close (Some mincache.CloseSync) = true
flushes_every_close (Some mincache.Direct) = true
flushes_every_close (Some mincache.DSync) = true
flushes_every_close (Some mincache.Unbuffered) = true
flushes_every_close (Some mincache.TmpCache) = false

-- a close of a handle with flag sync or dsync flushes
abbrev pub flushes_synchronous_close : Option ConvOSync → Bool
flushes_synchronous_close None = false
flushes_synchronous_close (Some convosync.CloseSync) = true
flushes_synchronous_close (Some convosync.Delay) = false
flushes_synchronous_close (Some convosync.Direct) = true
flushes_synchronous_close (Some convosync.DSync) = true
flushes_synchronous_close (Some convosync.Unbuffered) = true

abbrev pub is_synchronous : Flag → Bool
is_synchronous flag.Plain = false
is_synchronous flag.Sync = true
is_synchronous flag.DSync = true
is_synchronous flag.Direct = false
is_synchronous flag.Unbuffered = false

abbrev pub flushes_at_close : Flag → Options → Bool
flushes_at_close f o = flushes_every_close o.mincache || (is_synchronous f && flushes_synchronous_close o.convosync)

-- ---- files after a crash

abbrev pub is_log : Logging → Bool
is_log logging.Log = true
is_log logging.DelayLog = false
is_log logging.TmpLog = false

abbrev pub is_tmplog : Logging → Bool
is_tmplog logging.Log = false
is_tmplog logging.DelayLog = false
is_tmplog logging.TmpLog = true

abbrev pub is_tmpcache : Option MinCache → Bool
is_tmpcache (Some mincache.TmpCache) = true
is_tmpcache _ = false

-- uninitialised storage may show in a file
abbrev pub loose : Options → Bool
loose o = (is_tmplog o.logging || is_tmpcache o.mincache) && not o.blkclear

-- ---- calls that are persistent when they return

abbrev pub commits : Call → Options → Bool
commits (call.Fsync handle) o = true
commits call.Sync o = true
commits (call.Rename old new) o = not (is_tmplog o.logging)
commits (call.Create path mode) o = is_log o.logging
commits (call.Mkdir path mode) o = is_log o.logging
commits (call.Unlink path) o = is_log o.logging
commits (call.Rmdir path) o = is_log o.logging
commits (call.Link old new) o = is_log o.logging
commits (call.Chmod path mode) o = is_log o.logging
commits (call.Truncate handle size) o = is_log o.logging
commits (call.Setext path attrs) o = is_log o.logging
commits _ o = false
