use Rattle.std.proofs.Common.{rules, false, ◌≡◌, ℕ, ◌∙◌, ap, ◌+◌, ◌*◌, arith, List, Option, Some, None, ◌++◌, ◌∷◌, []}
use Rattle.std.specs.FinMap as map
use Rattle.std.specs.Ordering.{nat_cmp}
use Rattle.vx_alloc.specs.FreeMaps.{all_free}
use Rattle.vx_base.specs.declared.inode.Inode.{Inode}
use Rattle.vx_inode.specs.Tables.{Table, inode_at, with_inode}
use Rattle.vx_model.specs.State.{fresh}
use Rattle.vx_txn.specs.Directories.{DirectoryValue}
use Rattle.vx_txn.proofs.MetaLaws.{fresh_is, fresh_laid_out}
use Rattle.vx_txn.proofs.meta.Meta.fresh.Goals as goal

pub put-requires-clause-unused : goal.put-requires-clause-unused
put-requires-clause-unused c = ap (λ (t : Table). inode_at t c.new-2.result) c.in_ok-inodes.ensures ∙ map.get-empty nat_cmp c.new-2.result

pub returns-clause-state : goal.returns-clause-state
returns-clause-state c = λ device_sectors.
    fresh_is _ c.args.log_blocks device_sectors
    (c.in_ok-put.ensures.ok ∙ ap (λ (t : Table). with_inode t c.new-2.result c.root.result) c.in_ok-inodes.ensures
    ∙ ap (λ (n : ℕ). with_inode (record { units = 1; inodes = map.empty }) n c.root.result) c.new-2.ensures ∙ ap (λ (i : Inode). with_inode (record { units = 1; inodes = map.empty }) 2 i) c.root.ensures)
    (c.in_ok-push-3.ensures.items
    ∙ ap (λ (xs : List (Option DirectoryValue)). xs ++ Some c.new-3.result ∷ []) (c.in_ok-push-2.ensures.items ∙ ap (λ (xs : List (Option DirectoryValue)). xs ++ None ∷ []) c.in_ok-push.ensures.items)
    ∙ ap (λ (xs : List (Option DirectoryValue)). xs ++ None ∷ [] ++ None ∷ [] ++ Some c.new-3.result ∷ []) (let e : c.new-directories.result.items ≡ [] = search rules in e)
    ∙ ap (λ (d : DirectoryValue). None ∷ None ∷ Some d ∷ []) c.new-3.ensures)
    (c.in_ok-free.ensures ∙ ap (λ (n : ℕ). all_free n 4063 1) c.new-first.ensures)
    c.new-first.ensures

pub returns-clause-sound : goal.returns-clause-sound
returns-clause-sound c =
    let sectors : ℕ = 2 * (2 + c.args.log_blocks + 4096) in
    record { state = fresh c.args.log_blocks 64 sectors; stands = record { laid_out = fresh_laid_out c.args.log_blocks sectors c.requires (omega arith); plain = c.fresh_reads.ensures.plain (record { log_blocks = c.args.log_blocks; units = 1; clean = false }) 64 sectors; is = returns-clause-state c sectors } }
