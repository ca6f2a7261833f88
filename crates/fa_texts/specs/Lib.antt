pub mod BatchText
pub mod CertificateText
pub mod LoggedPlan
pub mod Numbers
pub mod Text
