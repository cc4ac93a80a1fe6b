-- What a create or a mkdir answers where no inode is made.
use Rattle.std.specs.Prelude.{Result, Ok, Err, alloc_error}
use Rattle.std.specs.declared.alloc.AllocError.{AllocError}
use Rattle.vx_base.specs.declared.refusal.Refusal.TheVariants as no
use Rattle.vx_base.specs.declared.reply.Reply.{Reply}
use Rattle.vx_base.specs.declared.reply.Reply.TheVariants as say
use Rattle.vx_inode.specs.declared.table.MakeRefusal.{MakeRefusal}
use Rattle.vx_inode.specs.declared.table.MakeRefusal.TheVariants as make

abbrev pub full_reply : MakeRefusal → Result Reply AllocError
full_reply (make.NoInodes in_use) = Ok (say.Refused (no.NoInodes in_use))
full_reply make.NoMemory = Err alloc_error
