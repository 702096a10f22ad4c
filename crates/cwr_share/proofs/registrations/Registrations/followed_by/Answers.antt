use Rattle.std.proofs.Common.{◌≡◌, ◌∙◌, ◌∷◌, ◌++◌, [], List, ap, length}
use Rattle.cwr_share.specs.Compiled.{Kept, whole}
use Rattle.cwr_share.proofs.CompiledLemmas.{parts_more}
use Rattle.cwr_share.proofs.registrations.Registrations.followed_by.Goals as goal

pub returns : goal.returns
returns c =
    let registration = c.args.registration.now in
    let lines = c.self.inside.lines.items in
    let extents = c.self.inside.extents.items in
    let first : c.len.result ≡ length lines = c.len.ensures ∙ c.self.inside.lines.ok.0 in
    let count : c.len-2.result ≡ length registration.lines.items = c.len-2.ensures ∙ registration.lines.ok.0 in
    rw (c.in_ok-push.ensures.items, c.in_ok-extend_from_slice.ensures.items, c.as_slice.ensures.value, first, count, c.of.ensures)
    (parts_more lines registration.lines.items registration.shares extents c.self.invariant
    ∙ ap (λ (before : List Kept). before ++ whole registration ∷ []) c.self.view_is)
