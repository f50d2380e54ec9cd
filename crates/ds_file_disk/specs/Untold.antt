-- What is said of contents that are never told.
use Rattle.std.specs.Prelude.{◌≡◌, length, Some, None}
use Rattle.ds_disk.specs.Contents.{Contents}
use Rattle.ds_disk.specs.Logs.{LogsAreBytes}
use Rattle.ds_disk.specs.Pages.{PagesAreBytes}

pub never_told : (c : Contents) → None ≡ Some c → length c.logs ≡ 32
never_told c e = absurd cc

pub no_page_told : (c : Contents) → None ≡ Some c → PagesAreBytes c.pages
no_page_told c e = absurd cc

pub no_log_told : (c : Contents) → None ≡ Some c → LogsAreBytes c.logs
no_log_told c e = absurd cc
