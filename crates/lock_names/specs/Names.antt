-- Which names are the same.
use Rattle.std.specs.Prelude.{Bool, false, ◌&&◌, ◌==◌}
use Rattle.ds_model.specs.declared.lock.Name.{Name}
use Rattle.ds_model.specs.declared.lock.Name.TheVariants as name

-- whether both are the same name
unfoldable pub same_name : Name → Name → Bool
same_name (name.Space t) (name.Space u) = t == u
same_name (name.Row t k) (name.Row u l) = (t == u) && (k == l)
same_name (name.Page p) (name.Page q) = (p.set == q.set) && (p.number == q.number)
same_name (name.Set s) (name.Set t) = s == t
same_name _ _ = false
