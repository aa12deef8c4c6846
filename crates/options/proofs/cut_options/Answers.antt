use Rattle.std.proofs.Common.{rules, ◌≡◌, get_or, ◌∙◌}
use Rattle.part.proofs.Cut.{cut_length}
use Rattle.part.specs.Options.{cut_option, cut_options}
use Rattle.options.specs.Changed.{new_at}
use Rattle.options.proofs.Cells.{new_cells, cut_is}
use Rattle.options.proofs.cut_options.Goals as goal

pub returns : goal.returns
returns c =
    let a = c.args in
    let s = a.options.now in
    let new = new_cells a.regress a.optcr s in
    c.rewrite.ensures (cut_options s new a.scrap.now) (cut_length s new a.scrap.now)
    (λ i r h p. let made : r ≡ cut_option (get_or s i 0) (new_at a.regress a.optcr i (get_or s i 0)) (get_or a.scrap.now i 0) = search rules in
    made ∙ cut_is a.regress a.optcr a.scrap.now s i h)
