use Rattle.std.proofs.Common.{◌≡◌, ◌∙◌, ◌++◌, ◌∷◌, [], ℕ, List, ap, subst, sym}
use Rattle.file_form.specs.Controls.{differences, is_group_header, is_header, since}
use Rattle.file_form.specs.SoFar.{IsPartOf, lines_behind}
use Rattle.file_form.proofs.ControlLemmas.{group_room, scan_on, since_push, whole_room}
use Rattle.file_form.proofs.controls.Scan.add.Goals as goal

pub behind-self-requires : goal.behind-self-requires
behind-self-requires c = group_room c.requires.lines.0 c.args.self.now c.requires.few c.requires.lines.1

pub behind-self-requires-2 : goal.behind-self-requires-2
behind-self-requires-2 c = whole_room c.requires.lines.0 c.args.self.now c.requires.few c.requires.lines.1

pub returns : goal.returns
returns c lines is =
    let line = c.args.line.now in
    let behind = lines ++ line ∷ [] in
    let group : lines_behind (since is_group_header lines) line c.is_type.result ≡ since is_group_header behind =
    ap (lines_behind (since is_group_header lines) line) c.is_type.ensures ∙ sym (since_push is_group_header lines line) in
    let whole : lines_behind (since is_header lines) line c.is_type-2.result ≡ since is_header behind =
    ap (lines_behind (since is_header lines) line) c.is_type-2.ensures ∙ sym (since_push is_header lines line) in
    let of_group : IsPartOf (since is_group_header behind) c.behind-self.result =
    subst (λ (part : List (List ℕ)). IsPartOf part c.behind-self.result) group (c.behind-self.ensures (since is_group_header lines) is.group) in
    let of_whole : IsPartOf (since is_header behind) c.behind-self-2.result =
    subst (λ (part : List (List ℕ)). IsPartOf part c.behind-self-2.result) whole (c.behind-self-2.ensures (since is_header lines) is.whole) in
    let rest = c.in_ok-compare_all.ensures.rest in
    let noted = c.in_ok-compare_all.ensures.noted (since is_group_header behind) (since is_header behind) (differences lines) of_group of_whole
    (record { count = is.controls.count; first = is.controls.first }) in
    scan_on lines line c.args.self.now c.compare_all.new.self is rest.number
    (subst (IsPartOf (since is_group_header behind)) (sym rest.group) of_group) (subst (IsPartOf (since is_header behind)) (sym rest.whole) of_whole)
    (rest.closed ∙ c.is_closed_behind-self.ensures) noted
