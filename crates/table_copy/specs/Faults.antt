-- A disk's fault as one of a copy.
use Rattle.ds_disk.specs.declared.disk.DiskError.{DiskError}
use Rattle.ds_disk.specs.declared.disk.DiskError.TheVariants as errors
use Rattle.table_copy.specs.declared.fault.CopyFault.{CopyFault}
use Rattle.table_copy.specs.declared.fault.CopyFault.TheVariants as fault

abbrev pub fault_of : DiskError → CopyFault
fault_of errors.Failed = fault.Disk
fault_of errors.NoMemory = fault.NoMemory
