-- Each promise of `edge_filters` admits one answer only. Assumes nothing.
use Rattle.lists.proofs.Answer.{OneAnswer, same}
use Rattle.edge_filters.proofs.filter_simple.Reads as filter-simple
use Rattle.edge_filters.proofs.filter_simple.Kinds as filter-simple-k
use Rattle.edge_filters.proofs.filter_outer.Reads as filter-outer
use Rattle.edge_filters.proofs.filter_outer.Kinds as filter-outer-k
use Rattle.edge_filters.proofs.filter_inner.Reads as filter-inner
use Rattle.edge_filters.proofs.filter_inner.Kinds as filter-inner-k

pub filter-simple-one : OneAnswer 0 filter-simple-k.ps filter-simple-k.r filter-simple.Post
filter-simple-one κs a x y s t = same

pub filter-outer-one : OneAnswer 0 filter-outer-k.ps filter-outer-k.r filter-outer.Post
filter-outer-one κs a x y s t = same

pub filter-inner-one : OneAnswer 0 filter-inner-k.ps filter-inner-k.r filter-inner.Post
filter-inner-one κs a x y s t = same
