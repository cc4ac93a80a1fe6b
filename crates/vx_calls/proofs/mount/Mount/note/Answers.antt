use Rattle.std.proofs.Common.{◌≡◌, ◌⊎◌, ◌∙◌, ◌+◌, ◌≤◌, [], length, ap, inl, inr}
use Rattle.vx_stage.specs.declared.kernel.Kernel.{Kernel}
use Rattle.vx_calls.specs.declared.mount.Mount.{Mount}
use Rattle.vx_calls.proofs.Noting.{noted}
use Rattle.vx_calls.proofs.Spending.{joined, joined_owed, joined_promised, one_more}
use Rattle.vx_calls.proofs.mount.Mount.note.Goals as goal

pub gather-requires-clause-sound : goal.gather-requires-clause-sound
gather-requires-clause-sound g c = let r = c.requires.replied.1 in record { state = r.new; stands = record { laid_out = r.laid_out; plain = r.plain; is = r.meta } }

pub returns-clause-at : goal.returns-clause-at
returns-clause-at g c = λ o r may.
    let m = c.args.self.now in
    let d = g.D.BlockDev.state c.args.dev.now in
    noted o d m c.args.call c.args.reply r c.args.session c.args.line may c.edit_laws.ensures c.gather.new.self c.gather.ensures.same c.gather.ensures.right c.gather.ensures.whole c.act.new.self d.count c.act.ensures.items
    (c.act.ensures.run o) (c.act.ensures.live o) c.act.ensures.fit (ap (λ (x : Kernel). x.job) c.act.ensures.same) c.clear-2.new.self c.clear.new.self c.clear-2.ensures c.clear.ensures

pub returns-clause-owed : goal.returns-clause-owed
returns-clause-owed g c =
    let m = c.args.self.now in
    let t = c.gather.new.self.transaction in
    let kernel_is : c.gather.new.self.kernel ≡ m.kernel = ap (λ (x : Mount). x.kernel) c.gather.ensures.same in
    let place : (t ≡ []) ⊎ (length m.kernel.gathered ≤ 144) = elim c.requires.replied.1.place [ inl none ↦ inl (c.gather.ensures.none none) | inr place ↦ inr place ] in
    joined_owed c.note_laws.ensures m (record { kernel = c.act.new.self; meta = c.gather.new.self.meta; touched = c.clear-2.new.self; transaction = c.clear.new.self; disabled = c.gather.new.self.disabled; due = c.gather.new.self.due }) t
    (joined c.gather.new.self.kernel m.kernel c.act.new.self t kernel_is c.act.ensures.same c.act.ensures.gathered) (ap (λ (x : Mount). x.meta) c.gather.ensures.same) c.gather.ensures.few place

pub returns-clause-promised : goal.returns-clause-promised
returns-clause-promised g c =
    let m = c.args.self.now in
    let t = c.gather.new.self.transaction in
    let kernel_is : c.gather.new.self.kernel ≡ m.kernel = ap (λ (x : Mount). x.kernel) c.gather.ensures.same in
    let longer : length c.act.new.self.history.items ≡ length c.gather.new.self.kernel.history.items + 1 = one_more c.gather.new.self.kernel.history.items c.act.new.self.history.items _ c.act.ensures.items in
    joined_promised c.note_laws.ensures m (record { kernel = c.act.new.self; meta = c.gather.new.self.meta; touched = c.clear-2.new.self; transaction = c.clear.new.self; disabled = c.gather.new.self.disabled; due = c.gather.new.self.due }) t
    (joined c.gather.new.self.kernel m.kernel c.act.new.self t kernel_is c.act.ensures.same c.act.ensures.gathered) (ap (λ (x : Mount). x.meta) c.gather.ensures.same) (ap (λ (x : Mount). x.due) c.gather.ensures.same)
    (longer ∙ ap (λ (k : Kernel). length k.history.items + 1) kernel_is)
