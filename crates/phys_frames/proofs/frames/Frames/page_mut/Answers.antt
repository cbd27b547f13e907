use Rattle.std.proofs.Common.{Option, None, List, ℕ, get_or, refl, sym, ap, subst, ◌∙◌}
use Rattle.std.specs.Option.{IsSome}
use Rattle.phys_frames.specs.Memory.{Memory, with_page, over}
use Rattle.phys_frames.proofs.Chunks.{page-run, page-value, page-length}
use Rattle.phys_frames.proofs.Runs.{page_lent-length, page_lent-pages, page_lent-count}
use Rattle.phys_frames.proofs.frames.Frames.page_mut.Goals as goal

pub slice_mut-requires : goal.slice_mut-requires
slice_mut-requires c =
    let home = subst (λ (m : Memory). IsSome (get_or m.pages c.args.p.0 None)) (sym c.self.view_is) c.requires in
    (sym c.self.invariant.0, page-run 4096 c.self.inside.count c.self.inside.cells.slots c.self.invariant.4 c.args.p.0 home)

pub invariant_of-self-lent : goal.invariant_of-self-lent
invariant_of-self-lent c =
    let home = subst (λ (m : Memory). IsSome (get_or m.pages c.args.p.0 None)) (sym c.self.view_is) c.requires in
    let i = c.self.inside in let inv = c.self.invariant in let xs = c.slice_mut.result.now in let seen = c.slice_mut.ensures.value in
    λ w. (inv.0, inv.1, inv.2, inv.3, page_lent-length 4096 i.count i.cells.slots inv.4 c.args.p.0 home xs seen w, inv.5, inv.6, inv.7 ∙ sym (page_lent-count 4096 i.count i.cells.slots inv.4 c.args.p.0 home xs seen w))

pub returns : goal.returns
returns c =
    let home = subst (λ (m : Memory). IsSome (get_or m.pages c.args.p.0 None)) (sym c.self.view_is) c.requires in
    let i = c.self.inside in let inv = c.self.invariant in let xs = c.slice_mut.result.now in let seen = c.slice_mut.ensures.value in (
      (
        refl,
        λ w. ap (λ (ps : List (Option (List ℕ))). record { pages = ps; home = record { mark = i.base.ptr; frames = i.count; key = i.deed.key } }) (page_lent-pages 4096 i.count i.cells.slots inv.4 c.args.p.0 home xs seen w)
            ∙ ap (λ (m : Memory). with_page m c.args.p (over xs w)) c.self.view_is,
      ),
      record { writes_back = tt; value = ap (λ (m : Memory). get_or m.pages c.args.p.0 None) (sym c.self.view_is) ∙ page-value 4096 i.count i.cells.slots inv.4 c.args.p.0 home xs seen; len = page-length 4096 i.count i.cells.slots inv.4 c.args.p.0 home xs seen },
    )
